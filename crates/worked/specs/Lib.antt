pub mod Cases
pub mod Additions
pub mod Views
pub mod Lines
