pub mod Attending
pub mod FieldLists
pub mod HeadLaws
pub mod Admitting
