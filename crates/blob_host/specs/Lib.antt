pub mod Noting
pub mod Opening
pub mod Refusing
