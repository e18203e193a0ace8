pub mod Measuring
pub mod Writing
pub mod Sound
pub mod Shows
pub mod Neat
pub mod Longest
pub mod Exactly
