-- What the proofs of several functions use, and the theorems about listings.
pub mod Writing
pub mod Decimal
pub mod Parts
pub mod Items
pub mod Lengths
pub mod Edges
pub mod PathRanges
pub mod LineFits
pub mod NextPath
pub mod NextIsLater
pub mod RequestsLeft
pub mod LineWritten
pub mod Filling
pub mod EdgeByFirst
pub mod ListingIsARun
pub mod RunIsTheListing
pub mod Examples
