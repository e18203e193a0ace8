-- The parts of the worked cases, and the cases.
pub mod WorkedParts
pub mod Words
pub mod Cases
pub mod Views
pub mod Lines
