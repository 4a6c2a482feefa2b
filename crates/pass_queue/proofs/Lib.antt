pub mod Orders
pub mod Compare
pub mod Kept
pub mod Lists
pub mod Holes
pub mod Slots
pub mod Sifts
pub mod Examples
