pub mod Opening
pub mod Lawful
pub mod Replaying
pub mod Reading
pub mod TextOpening
pub mod Sweeps
