pub mod Vocabularies
pub mod Growth
pub mod Models
pub mod Naming
pub mod Laws
pub mod Replies
