pub mod Bytes
pub mod Kept
pub mod Members
pub mod Rising
pub mod Traces
pub mod Utf8
pub mod FailsFirst
