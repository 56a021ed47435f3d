pub mod Fields
pub mod Below
pub mod Answers
pub mod Refusals
pub mod Numbers
pub mod Requests
pub mod Order
pub mod Rulings
