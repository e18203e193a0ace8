pub mod Texts
pub mod Pieces
pub mod Showing
pub mod Spellers
pub mod Replies
pub mod Laws
