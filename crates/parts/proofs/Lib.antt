pub mod Weighing
pub mod Entries
