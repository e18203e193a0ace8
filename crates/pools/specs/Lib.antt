pub mod Faults
pub mod Pools
pub mod Views
pub mod Laws
pub mod Grants
pub mod Runs
pub mod Ledgers
pub mod RunLaws
