pub mod RecordLaws
pub mod HistoryLaws
pub mod RecoveryLaws
pub mod CutLaws
pub mod BytesLaws
pub mod RecoveredLaws
pub mod PieceLaws
pub mod WholeLaws
mod Laying
