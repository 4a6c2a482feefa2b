pub mod Truth
pub mod Lists
pub mod Below
pub mod Answers
pub mod Refusals
pub mod Members
