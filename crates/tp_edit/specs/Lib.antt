pub mod Text
pub mod Applying
pub mod Splices
pub mod EditRecords
pub mod Landings
pub mod EditLaw
pub mod EditLimits
pub mod RemovalLaws
