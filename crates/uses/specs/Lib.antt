pub mod Again
pub mod Published
