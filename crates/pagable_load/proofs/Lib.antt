mod Batches
pub mod LoadSteps
pub mod Lending
pub mod PinsAndReads
mod HeldByPins
mod FromRoot
pub mod Keyed
