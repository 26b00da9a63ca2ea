pub mod Layout
pub mod Reading
pub mod Recovery
pub mod Refusals
pub mod Whole
pub mod Pieces
pub mod Laws
