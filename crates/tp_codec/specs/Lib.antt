pub mod Prefix
pub mod Reading
pub mod Gives
