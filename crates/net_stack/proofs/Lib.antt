pub mod Stacks
pub mod Arrives
