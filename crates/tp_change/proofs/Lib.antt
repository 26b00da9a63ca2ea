pub mod HashLaws
pub mod OpsBegin
pub mod ValidatedSteps
pub mod ValidatedLaws
pub mod OpsLaws
pub mod ElementLaws
pub mod Numbered
