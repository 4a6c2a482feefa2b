pub mod Space
pub mod Steps
pub mod Walks
pub mod Given
pub mod Rebuild
