pub mod Common
pub mod Views
pub mod Members
pub mod Lives
pub mod Making
pub mod Meeting
pub mod Made
pub mod States
