pub mod JobError
pub mod Names
pub mod Notes
pub mod Telling
