pub mod Common
pub mod InsertLaws
pub mod WaitingLaws
pub mod BeforeLaws
pub mod MarkedLaws
pub mod AnswersLaws
pub mod MakerLaws
pub mod ReadyLaws
