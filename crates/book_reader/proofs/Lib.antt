pub mod Rooms
pub mod Numbers
mod Parts
mod Refusals
