pub mod Refusals
pub mod Mirroring
pub mod Network
pub mod Watching
pub mod Sessions
pub mod Showing
