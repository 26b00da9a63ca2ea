pub mod StoreError
pub mod Saved
pub mod Loading
pub mod Outlines
pub mod Documents
