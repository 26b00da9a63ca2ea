pub mod Greetings
pub mod Sites
pub mod Upgrades
pub mod Visiting
