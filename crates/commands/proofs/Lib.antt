pub mod Cuts
pub mod Numbers
pub mod Lines
pub mod Verbs
pub mod Tells
pub mod Exactly
pub mod Finds
pub mod Terms
