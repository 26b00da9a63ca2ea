pub mod FrameError
pub mod Frame
pub mod Reading
pub mod Openings
pub mod Stream
pub mod PartState
pub mod Parts
pub mod Joining
