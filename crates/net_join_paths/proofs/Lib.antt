pub mod Entries
pub mod Spans
pub mod Kept
