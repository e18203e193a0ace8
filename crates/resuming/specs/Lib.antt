pub mod Shapes
pub mod Climbing
pub mod Laws
