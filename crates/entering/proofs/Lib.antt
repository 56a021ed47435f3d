-- What the proofs of several functions use.
pub mod OpenEdges
pub mod NumbersWritten
pub mod Seeking
pub mod LaidOut
pub mod Indexing
pub mod WalkedBefore
pub mod Levels
pub mod ValueByValue
