pub mod Lists
pub mod ByActor
pub mod Linking
pub mod Columning
pub mod Entering
