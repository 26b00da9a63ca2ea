-- The words of the crates below that several contracts cite, passed on from one place. Declares nothing.
pub use Rattle.std.specs.Int.{from_be_bytes, w32}
pub use Rattle.std.specs.List.{list_any, slice_get}
pub use Rattle.std.specs.Map.{lookup}
pub use Rattle.tp_change.specs.ChangeHash.{hash_of}
pub use Rattle.tp_change.specs.Elements.{inserts, next_counter, refers}
pub use Rattle.tp_change.specs.Operations.{op_count, ops_of}
pub use Rattle.tp_layout.specs.declared.parts.ChangeParts.{ChangeParts}
pub use Rattle.tp_list.specs.Members.{In}
pub use Rattle.tp_list.specs.Rising.{rising}
pub use Rattle.tp_opid.specs.Order.{hash_cmp}
pub use Rattle.tp_opid.specs.Same.{same_actor, same_hash}
pub use Rattle.tp_opid.specs.declared.actor.Actor.{Actor}
pub use Rattle.tp_opid.specs.declared.hash.Hash.{Hash}
pub use Rattle.tp_opid.specs.declared.op_id.OpId.{OpId}
