pub mod Cases
pub mod Views
pub mod Lines
