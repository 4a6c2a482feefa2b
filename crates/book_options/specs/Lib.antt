pub mod Options
pub mod Turns
