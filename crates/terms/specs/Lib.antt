-- The definitions that the whole product rests on, in the order in which to read them.
pub mod Limits
pub mod Terms
pub mod Contexts
pub mod Rules
pub mod Steps
pub mod Codes
pub mod Shapes
pub mod Models
pub mod Systems
pub mod Replies
pub mod Laws
pub mod Kinds
pub mod Lines
