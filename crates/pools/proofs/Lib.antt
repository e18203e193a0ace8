pub mod Effects
pub mod Histories
pub mod Places
pub mod Running
pub mod Settlings
