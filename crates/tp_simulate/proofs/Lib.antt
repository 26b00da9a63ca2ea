pub mod PlayLaws
pub mod ScriptLaws
pub mod TellLaws
