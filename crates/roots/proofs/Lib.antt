pub mod Laws
pub mod Lines
pub mod Examples
