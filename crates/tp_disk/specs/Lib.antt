pub mod DiskView
pub mod Keys
pub mod Opening
pub mod Waiting
