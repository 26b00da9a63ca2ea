pub mod Common
pub mod Endings
pub mod SeatLists
pub mod Counting
