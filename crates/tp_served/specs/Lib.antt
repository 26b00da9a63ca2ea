pub mod Common
pub mod ServedError
pub mod Seats
pub mod Rule
pub mod Sitting
pub mod Steps
pub mod Absences
pub mod Calls
