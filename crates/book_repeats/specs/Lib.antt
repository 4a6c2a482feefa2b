pub mod Repeats
