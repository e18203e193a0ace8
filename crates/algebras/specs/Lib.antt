-- Algebras over terms: what they mean, what they answer, and what that bounds.
pub mod Meanings
pub mod Layers
pub mod Replies
pub mod Sums
pub mod Laws
pub mod Bounds
pub mod Reviews
pub mod Lawfuls
pub mod Words
