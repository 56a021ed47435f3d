pub mod Text
pub mod Written
pub mod Paths
pub mod Listing
