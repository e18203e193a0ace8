pub mod Lexes
pub mod Cuts
pub mod Names
