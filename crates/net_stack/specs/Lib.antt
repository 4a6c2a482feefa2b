pub mod Stack
pub mod Openings
