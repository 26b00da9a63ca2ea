pub mod Common
pub mod Judging
pub mod Order
