pub mod Flaws
pub mod Refusals
pub mod Numbers
pub mod Encoding
pub mod Frames
pub mod Bodies
pub mod Reading
pub mod Laws
