pub mod FirstRows
pub mod Answers
pub mod Examples
