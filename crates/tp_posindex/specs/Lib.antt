pub mod Layout
pub mod BlockState
pub mod Laid
pub mod Kept
pub mod CountsState
pub mod Blocked
