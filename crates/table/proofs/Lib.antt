-- What the proofs of several functions use, and the theorems about reading.
pub mod Tree
pub mod Faults
pub mod FieldByField
pub mod Climb
pub mod Header
pub mod Good
pub mod Accepting
pub mod Pass
pub mod LevelByLevel
pub mod AcceptedIsWellFormed
pub mod ParentsAndSpansAgree
pub mod Computing
