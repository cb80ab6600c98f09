pub mod Results
pub mod Slots
pub mod Table
pub mod Tasks
pub mod Turns
pub mod Strides
pub mod PageOuts
pub mod Joint
