pub mod Hashing
pub mod Lanewise
pub mod Paddings
pub mod Schedules
