mod Environment
mod Names
mod Published
mod Working
