-- Matching, rewriting and the search for the first redex: what the calls on codes answer, and what that means for terms.
pub mod Matching
pub mod Places
pub mod Bindings
pub mod Filling
pub mod Searching
pub mod Replies
pub mod Subjects
pub mod Laws
