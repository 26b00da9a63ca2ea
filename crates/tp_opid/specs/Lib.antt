pub mod Order
pub mod Same
pub mod HexError
pub mod HexText
pub mod Insert
pub mod Tree
