pub mod LineCauses
pub mod DoneLaws
pub mod RescueLaws
pub mod NoteLaws
pub mod CutLaws
