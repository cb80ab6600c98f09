mod Caching
mod Keeping
mod Naming
mod Showing
