pub mod ChangeError
pub mod Counts
pub mod Faults
pub mod Kept
pub mod Limits
pub mod Puts
pub mod Reading
pub mod Spelling
