pub mod Searched
pub mod Steps
