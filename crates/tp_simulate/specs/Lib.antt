pub mod SimError
pub mod Names
pub mod Words
pub mod Telling
pub mod Marks
pub mod Playing
pub mod Script
pub mod Shapes
