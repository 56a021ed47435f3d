pub mod Edges
pub mod Index
pub mod Laid
pub mod Walking
