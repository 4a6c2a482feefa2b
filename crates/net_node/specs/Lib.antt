pub mod Table
pub mod Left
pub mod Lent
pub mod Held
