pub mod Subterms
pub mod Structures
pub mod Held
pub mod Replies
pub mod Laws
