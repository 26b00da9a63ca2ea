pub mod Common
pub mod StepFacts
pub mod ReadingLaws
pub mod Hearing
pub mod Transcripts
