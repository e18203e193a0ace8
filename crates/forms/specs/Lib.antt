pub mod Columns
pub mod Faithful
pub mod Replies
