-- What the proofs of several functions use, and other crates' proofs cite.
pub mod WordPlaces
pub mod PlacesCounted
pub mod SetNumbers
pub mod NextNumber
