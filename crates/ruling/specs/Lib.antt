pub mod Forest
pub mod Meaning
pub mod AsWorded
pub mod Ruling
pub mod Walk
