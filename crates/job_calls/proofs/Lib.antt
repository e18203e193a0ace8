pub mod States
pub mod Stepping
pub mod Sweeping
pub mod Running
pub mod Only
pub mod OnlySweeps
pub mod OnlyRuns
pub mod Replying
