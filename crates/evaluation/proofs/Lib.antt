pub mod Throughout
pub mod Waiting
pub mod Evaluated
pub mod Filling
