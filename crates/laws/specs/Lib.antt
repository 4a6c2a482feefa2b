pub mod Answer
pub mod Below
pub mod Refusals
