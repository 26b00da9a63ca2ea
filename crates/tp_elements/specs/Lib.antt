pub mod Came
pub mod Columns
pub mod Entered
pub mod Actors
pub mod Indexed
