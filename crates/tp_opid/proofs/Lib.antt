pub mod Orders
mod HexDigits
pub mod Trees
