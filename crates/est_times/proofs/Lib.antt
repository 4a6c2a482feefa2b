pub mod Accepts
pub mod Networks
pub mod Finished
pub mod Stages
pub mod Demands
pub mod Answers
