pub mod Blocks
pub mod Lanes
pub mod Waiting
