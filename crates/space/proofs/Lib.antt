pub mod Zeros
pub mod Works
