pub mod Digits
pub mod Entries
pub mod Kept
pub mod Shown
pub mod Spelled
