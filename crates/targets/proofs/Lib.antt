-- What the proofs of several functions use, and the theorems about which nodes apply.
pub mod InRange
pub mod FieldByField
pub mod TargetFromWord
pub mod SubjectsInRange
pub mod Throughout
pub mod Applies
pub mod Members
pub mod AppliesIsClosed
pub mod AppliesByParents
pub mod SubjectsByParents
pub mod Computing
