pub mod Fakes
pub mod Finishing
pub mod Kept
