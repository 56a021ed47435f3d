pub mod Built
pub mod Walked
