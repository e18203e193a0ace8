pub mod Ending
pub mod Refusing
