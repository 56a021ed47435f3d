-- What other crates' proofs cite.
pub mod Table
pub mod Fold
pub mod NeverIndeterminate
