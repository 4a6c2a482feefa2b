pub mod Seeking
pub mod Puts
pub mod Answers
pub mod Kept
pub mod Examples
pub mod Numbers
