pub mod ChangeHash
pub mod Elements
pub mod Gathered
pub mod Validated
pub mod OpIds
pub mod Operations
pub mod OpsLeft
