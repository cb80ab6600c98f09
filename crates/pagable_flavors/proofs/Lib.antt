pub mod Varint
pub mod Basic
