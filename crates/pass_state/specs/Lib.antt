pub mod Held
pub mod Strands
pub mod Promises
