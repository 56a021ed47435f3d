-- What the proofs of several functions use, and the theorems about the profile.
pub mod Accepting
pub mod Rows
pub mod Pass
pub mod ConformingIsStandard
pub mod WaysAsPrinted
pub mod GroupsAsPrinted
pub mod EqualAnswers
pub mod AlgorithmCasesHold
pub mod Computing
