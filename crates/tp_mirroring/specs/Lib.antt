pub mod Beside
pub mod Folder
pub mod Seeing
pub mod Taking
