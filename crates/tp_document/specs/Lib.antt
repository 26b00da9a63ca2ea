pub mod Common
pub mod DocError
pub mod DocState
pub mod Editing
pub mod Making
pub mod Merging
pub mod Applying
pub mod Forking
