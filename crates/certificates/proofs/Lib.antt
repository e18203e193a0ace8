pub mod Filling
pub mod MeaningLemmas
pub mod Places
pub mod Positive
pub mod Reading
pub mod Sizes
pub mod Symbols
