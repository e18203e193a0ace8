pub mod Keeping
pub mod Reading
pub mod Assembling
pub mod Answering
