pub mod DurableLines
pub mod SplitLines
