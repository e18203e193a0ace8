pub mod Bodies
pub mod Tables
pub mod Parts
pub mod Readers
pub mod Certificates
pub mod Laws
pub mod Meanings
