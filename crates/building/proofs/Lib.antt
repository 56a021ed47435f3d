-- What the proofs of several functions use, and the theorems about building.
pub mod Remembered
pub mod FieldByField
pub mod Written
pub mod BuildAnswers
pub mod WalkedAll
pub mod BuiltIsSound
pub mod WithinTheMaxima
pub mod BuiltAnswersAsGroups
pub mod EqualExactlyWhenTablesAlike
