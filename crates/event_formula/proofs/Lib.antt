pub mod Laws
mod Examples
pub mod Standing
