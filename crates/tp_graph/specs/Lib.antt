pub mod Common
pub mod Covers
pub mod GraphState
pub mod Causes
pub mod Before
pub mod Marked
pub mod Ready
pub mod Waiting
