pub mod Kept
pub mod Inserting
pub mod Joining
pub mod Leg
