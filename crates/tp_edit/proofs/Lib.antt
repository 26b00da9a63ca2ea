mod ShownText
pub mod Applied
pub mod Numbered
pub mod Checked
pub mod Landed
pub mod EdgeLaws
pub mod SpliceLists
pub mod RecordSteps
pub mod ShownEdits
pub mod RunPlaces
pub mod Removals
pub mod Edited
pub mod RecordLimits
