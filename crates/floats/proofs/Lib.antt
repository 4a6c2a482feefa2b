pub mod Laws
pub mod Order
pub mod Patterns
pub mod Zeros
pub mod Examples
