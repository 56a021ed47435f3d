pub mod Targets
pub mod Subjects
pub mod Closed
