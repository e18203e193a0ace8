-- Hosts: their refusals, and what a hosted job has come to.
pub mod Faults
pub mod Hosting
pub mod Answers
