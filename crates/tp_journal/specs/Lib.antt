pub mod Optional
pub mod Journal
pub mod Calls
