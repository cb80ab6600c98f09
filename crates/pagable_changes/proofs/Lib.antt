mod CellKeys
mod Changing
mod FormsOverKeys
mod Kept
mod Passing
