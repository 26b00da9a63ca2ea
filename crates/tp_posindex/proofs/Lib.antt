pub mod Joining
pub mod Laying
pub mod Grouping
pub mod Keeping
pub mod Rooms
pub mod Seeking
pub mod Sequencing
