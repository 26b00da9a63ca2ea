pub mod Lines
pub mod Touching
pub mod Hunks
pub mod Printing
pub mod Unified
pub mod Words
