pub mod Arcs
pub mod Shape
pub mod Runs
pub mod Noted
pub mod Read
pub mod Grown
