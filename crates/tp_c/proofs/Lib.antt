pub mod Values
pub mod FlatLaws
pub mod NumberLaws
pub mod FoundLaws
