-- What the proofs of several functions use.
pub mod NumberByNumber
pub mod EdgeByEdge
pub mod EntryByEntry
pub mod CheckedNumbers
