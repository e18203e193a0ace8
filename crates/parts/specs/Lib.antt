pub mod Kinds
pub mod Vectors
pub mod Views
pub mod Making
pub mod Lawfuls
pub mod MakingLemmas
pub mod Columned
