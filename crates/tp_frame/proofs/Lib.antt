pub mod FrameFields
pub mod StreamLaws
pub mod FrontSteps
pub mod Openings
pub mod PartLaws
pub mod JoinLaws
