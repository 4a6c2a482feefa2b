pub mod TableEntry
pub mod Parts
