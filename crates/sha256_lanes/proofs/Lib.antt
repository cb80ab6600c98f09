pub mod ByLane
pub mod Majority
pub mod Messages
pub mod Rows
pub mod Shifts
pub mod Tails
