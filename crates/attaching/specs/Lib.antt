pub mod Attached
pub mod Fitted
pub mod Meaning
