pub mod Run
pub mod Growth
