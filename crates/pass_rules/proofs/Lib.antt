pub mod Sets
mod Held
mod Walking
mod Examples
mod SmallTables
