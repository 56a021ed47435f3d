-- What the proofs of several functions use, and the theorems about fitted tables.
pub mod BytesFitted
pub mod Trees
pub mod FittedIsAccepted
pub mod GroupsFitted
pub mod FitFaults
pub mod Copied
pub mod AttachAnswers
pub mod AttachedIsFitted
pub mod Computing
