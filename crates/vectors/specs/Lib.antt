pub mod Links
pub mod Words
