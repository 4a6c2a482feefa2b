pub mod Maker
pub mod Parts
