-- Jobs: what they hold, their openings, and the law of those that were opened in full.
pub mod Views
pub mod Openings
pub mod Faults
pub mod Fulls
pub mod Asking
pub mod FullOpenings
pub mod Reads
pub mod TextOpenings
