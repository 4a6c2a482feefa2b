pub mod Format
pub mod Rows
pub mod Chains
pub mod Same
