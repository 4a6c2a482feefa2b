pub mod Path
pub mod Kept
