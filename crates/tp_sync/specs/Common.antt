-- The words of the crates below that several contracts cite, passed on from one place. Declares nothing.
pub use Rattle.std.specs.List.{flat_map, list_any, slice_get}
pub use Rattle.std.specs.Option.{option_map, unwrap_or}
pub use Rattle.tp_change.specs.ChangeHash.{hash_of}
pub use Rattle.tp_layout.specs.Spelling.{spelling}
pub use Rattle.tp_layout.specs.declared.parts.ChangeParts.{ChangeParts}
pub use Rattle.tp_document.specs.DocState.{DocState}
pub use Rattle.tp_history.specs.Named.{has, names}
pub use Rattle.tp_list.specs.Members.{In}
pub use Rattle.tp_list.specs.Rising.{IsRising, rising}
pub use Rattle.tp_message.specs.Message.{IsMessage, MessageParts}
pub use Rattle.tp_message.specs.declared.limits.TheConstants.{MAX_CHANGES, MAX_HASHES, MAX_KNOWN}
pub use Rattle.tp_opid.specs.Order.{hash_cmp}
pub use Rattle.tp_opid.specs.declared.hash.Hash.{Hash}
