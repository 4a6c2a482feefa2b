pub mod Sweeps
pub mod Rows
pub mod Lists
pub mod Walks
pub mod Makes
pub mod Examples
