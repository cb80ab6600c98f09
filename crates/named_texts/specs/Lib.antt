pub mod Durable
pub mod Line
pub mod Named
pub mod Texts
