pub mod Planning
pub mod Starting
pub mod OriginEvents
pub mod Following
pub mod Saving
pub mod OriginLoop
