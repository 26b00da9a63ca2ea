pub mod LayoutFields
pub mod Entering
pub mod WholeFile
pub mod PieceSteps
pub mod Refusals
