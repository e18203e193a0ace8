pub mod Totals
pub mod Tests
pub mod Forms
pub mod Exact
pub mod Lawfuls
pub mod Near
pub mod Ceilings
