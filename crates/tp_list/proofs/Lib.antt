pub mod Utf8Laws
pub mod Tests
pub mod Members
pub mod RisingLaws
pub mod TraceLaws
