pub mod Network
pub mod Demand
pub mod Sheet
pub mod Stages
