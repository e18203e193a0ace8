pub mod Ends
pub mod Trips
pub mod Visits
