mod Words
pub mod Parts
pub mod Items
pub mod Lent
pub mod Maps
pub mod Hashed
pub mod JsonSteps
pub mod Json
pub mod Listed
pub mod Registered
pub mod Handles
