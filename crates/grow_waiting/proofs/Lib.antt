pub mod Runs
pub mod Kept
