pub mod Checks
pub mod Net
pub mod Forward
pub mod Backward
pub mod Passes
pub mod Walks
pub mod Plain
pub mod Held
