pub mod Tree
pub mod Reading
pub mod WellFormed
pub mod Open
pub mod Conformance
