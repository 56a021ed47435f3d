-- Laws of what every call shares.
pub mod Tests
pub mod Below
pub mod FirstField
pub mod RequestsInOrder
pub mod Settling
pub mod Numbers
pub mod RequestRefusals
pub mod Stored
pub mod SameRuling
