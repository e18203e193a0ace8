pub mod Parts
pub mod Piles
pub mod Lawful
