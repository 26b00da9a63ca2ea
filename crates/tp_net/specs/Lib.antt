pub mod Common
pub mod RunSession
pub mod Sessions
