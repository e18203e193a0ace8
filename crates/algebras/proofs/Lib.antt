pub mod Bounds
pub mod Telling
pub mod Sums
pub mod Passing
