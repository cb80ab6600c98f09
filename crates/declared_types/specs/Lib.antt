-- Printed by pagable_derive: change the declaration instead.
pub mod Nodes
pub mod Types
