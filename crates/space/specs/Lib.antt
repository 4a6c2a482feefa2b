pub mod Space
pub mod Lent
