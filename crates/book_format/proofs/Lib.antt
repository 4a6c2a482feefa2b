pub mod Floats
pub mod Places
pub mod Measures
pub mod Given
mod Same
pub mod Theorems
pub mod SmallBooks
mod Limits
