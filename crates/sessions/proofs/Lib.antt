pub mod Unchanged
pub mod Calling
pub mod Lawful
