pub mod Searches
pub mod Turns
pub mod Starts
pub mod Steps
pub mod Theorems
pub mod Examples
pub mod Alike
