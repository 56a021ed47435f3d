pub mod Layout
pub mod Ranges
pub mod SameNode
pub mod Writing
