pub mod Common
pub mod JudgeLaws
pub mod Runs
pub mod OrderLaws
pub mod ForeignLaws
pub mod Verdicts
pub mod Steps
