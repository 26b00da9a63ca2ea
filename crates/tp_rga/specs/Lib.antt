pub mod Order
pub mod Shown
pub mod State
pub mod PlainState
pub mod Same
