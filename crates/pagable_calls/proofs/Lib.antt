pub mod Keeping
pub mod Driven
pub mod Running
mod Failing
