pub mod Appending
pub mod File
pub mod Format
pub mod History
pub mod Log
pub mod Opening
pub mod Rows
