pub mod Rescuing
pub mod Files
pub mod Lines
pub mod Output
pub mod Words
