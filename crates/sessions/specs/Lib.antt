-- A session at a console: what it asks about, what commands change, what each answers, and the law.
pub mod Settings
pub mod Queries
pub mod Sessions
pub mod Pools
pub mod Jobs
pub mod Commands
pub mod Laws
pub mod Texts
