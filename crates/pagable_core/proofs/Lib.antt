pub mod Taking
pub mod Weighing
pub mod Adding
mod Names
