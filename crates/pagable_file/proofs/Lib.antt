mod Copying
mod Each
mod Flawed
mod Keys
mod Naming
mod Planned
mod Stored
