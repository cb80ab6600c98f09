pub mod Answers
pub mod Refusals
pub mod Slots
pub mod Stages
