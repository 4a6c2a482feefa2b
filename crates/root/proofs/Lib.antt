pub mod Whole
pub mod Rounded
pub mod Steps
pub mod Checked
pub mod Patterns
pub mod Nearest
pub mod Examples
