-- Slots for grants.
pub mod Slots
