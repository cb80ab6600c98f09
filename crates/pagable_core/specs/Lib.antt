pub mod Data
pub mod Context
pub mod Roots
pub mod Counts
