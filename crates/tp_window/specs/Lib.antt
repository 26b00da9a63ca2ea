pub mod Numbers
pub mod Windows
pub mod Refusals
pub mod Requests
pub mod Answers
pub mod Outcomes
pub mod Refusing
