pub mod EditorState
pub mod Exchanging
pub mod Meeting
pub mod Opening
