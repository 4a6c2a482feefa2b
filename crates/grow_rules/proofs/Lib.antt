mod Examples
mod Turns
mod Forks
