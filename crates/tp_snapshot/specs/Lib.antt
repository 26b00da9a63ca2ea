pub mod Common
pub mod Showing
pub mod Snapshots
pub mod Views
pub mod Windows
pub mod Differences
pub mod Effects
