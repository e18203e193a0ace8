pub mod Parts
pub mod Documents
pub mod Faults
pub mod Readings
pub mod Systems
