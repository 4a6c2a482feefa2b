pub mod Lists
pub mod Chains
pub mod Kept
pub mod Examples
