pub mod Causes
pub mod Alone
pub mod Held
pub mod Enums
pub mod Tags
