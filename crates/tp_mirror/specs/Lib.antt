pub mod Mirroring
pub mod Basing
pub mod FirstUses
pub mod Generations
pub mod Outcomes
pub mod StateFile
