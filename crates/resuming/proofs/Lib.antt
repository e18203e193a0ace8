pub mod Sights
pub mod Comparing
pub mod Resuming
pub mod Climbs
pub mod Symbols
pub mod Passing
