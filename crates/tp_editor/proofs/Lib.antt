pub mod TailLaws
pub mod Turns
pub mod EditLaws
