pub mod Kept
mod Alternatives
mod Targets
mod Spending
mod Given
mod Opened
mod Walking
mod Extending
mod Examples
mod Limits
