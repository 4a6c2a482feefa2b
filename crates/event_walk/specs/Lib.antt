pub mod Course
pub mod Walk
pub mod Held
pub mod Search
