-- The calls on a job, the plain job, and the law over runs.
pub mod Words
pub mod Calls
pub mod Plain
pub mod Runs
