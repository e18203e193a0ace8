pub mod Words
pub mod Numerals
pub mod Verbs
pub mod Requests
pub mod Table
pub mod Laws
