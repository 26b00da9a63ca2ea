pub mod Common
pub mod ListLaws
pub mod ViewLaws
pub mod RuleLaws
pub mod TokenLaws
pub mod SeatLaws
