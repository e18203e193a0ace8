pub mod Lookups
pub mod Founds
pub mod Growing
pub mod Consistency
pub mod Fixing
pub mod Calls
