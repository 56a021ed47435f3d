-- What the proofs of several functions use, and the laws of a table's bytes.
pub mod Places
pub mod Maxima
pub mod RangesReadBack
pub mod SameBytes
pub mod NumbersWritten
pub mod Joined
pub mod Computing
