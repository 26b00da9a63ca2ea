-- The words of the crates below that several contracts cite, passed on from one place. Declares nothing.
pub use Rattle.tp_layout.specs.declared.parts.ChangeParts.{ChangeParts}
