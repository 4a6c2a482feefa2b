pub mod Testing
pub mod Extending
pub mod Legs
pub mod Paths
