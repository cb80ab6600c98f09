pub mod Cells
pub mod Driving
pub mod PageOuts
pub mod Paged
pub mod TypedReferences
