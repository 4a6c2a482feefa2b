pub mod Sweeps
pub mod Stages
