pub mod Asking
pub mod Rules
pub mod Values
pub mod Commands
pub mod Uses
pub mod LineError
