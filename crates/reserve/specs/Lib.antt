pub mod Strictness
