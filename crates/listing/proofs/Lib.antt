pub mod Numbers
pub mod Texts
pub mod Lengths
mod Examples
