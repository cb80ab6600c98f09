pub mod GivenBack
pub mod Scopes
pub mod Typed
