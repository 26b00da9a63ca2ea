pub mod Keeping
pub mod Places
pub mod Bases
pub mod Watching
pub mod Resulting
pub mod StateFields
