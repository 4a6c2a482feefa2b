pub mod Keeping
pub mod TakingUp
