pub mod Closing
pub mod Driving
pub mod Growing
