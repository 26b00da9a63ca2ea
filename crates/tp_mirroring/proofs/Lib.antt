pub mod FolderLaws
pub mod SeenLaws
pub mod TurnLaws
