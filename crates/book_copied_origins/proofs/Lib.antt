pub mod Swaps
pub mod LinkZero
pub mod Theorem
