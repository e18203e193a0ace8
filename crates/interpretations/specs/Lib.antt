pub mod Numbers
pub mod Parts
pub mod Orders
pub mod Laws
