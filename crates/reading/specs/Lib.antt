-- How texts are read, in the order in which to read the files: how terms are spelled, how a term is read, and the law on
-- it; then how a whole text is read, how a system is spelled, and the laws on that.
pub mod Spelling
pub mod Sides
pub mod Flags
pub mod Laws
pub mod Fits
pub mod Models
pub mod Documents
pub mod Holding
pub mod Outcomes
pub mod Grammar
pub mod Exactly
