pub mod Common
pub mod RefusedEdits
pub mod MemberLaws
pub mod ThereLaws
pub mod Happenings
pub mod MadeLaws
