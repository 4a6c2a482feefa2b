pub mod Samples
pub mod Chains
pub mod Counts
pub mod Linking
pub mod Walking
pub mod Takes
pub mod Starts
pub mod Found
