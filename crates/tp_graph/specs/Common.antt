-- The words of the crates below that several contracts cite, passed on from one place. Declares nothing.
pub use Rattle.std.specs.List.{slice_get}
pub use Rattle.tp_change.specs.ChangeHash.{hash_of}
pub use Rattle.tp_change.specs.Elements.{inserts_in, is_inserted, is_reference}
pub use Rattle.tp_layout.specs.Counts.{count_of}
pub use Rattle.tp_change.specs.Operations.{id_of, op_count, ops_from}
pub use Rattle.tp_layout.specs.declared.parts.ChangeParts.{ChangeParts}
pub use Rattle.tp_layout.specs.declared.record.Record.{Record}
pub use Rattle.tp_list.specs.Rising.{put}
pub use Rattle.tp_opid.specs.Order.{hash_cmp}
pub use Rattle.tp_opid.specs.declared.actor.Actor.{Actor}
pub use Rattle.tp_opid.specs.declared.hash.Hash.{Hash}
pub use Rattle.tp_opid.specs.declared.op_id.OpId.{OpId}
