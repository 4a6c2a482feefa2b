pub mod Counts
pub mod Lowest
pub mod Elements
