-- Tokens of a text, as a definition over its bytes.
pub mod Bytes
pub mod Tokens
pub mod Names
pub mod Lexing
pub mod Lexers
pub mod Cuts
