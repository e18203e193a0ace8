pub mod Made
pub mod Filled
pub mod Tied
pub mod Compared
pub mod Told
