pub mod ShowFault
pub mod Log
pub mod Chain
pub mod Output
pub mod Show
pub mod Refusal
