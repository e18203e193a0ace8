mod Examples
pub mod Exact
pub mod Bodies
pub mod Records
pub mod Cutting
pub mod Exactly
