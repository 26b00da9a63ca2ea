-- Words of the crates below that contracts cite, passed on from one place. Declares nothing.
pub use Rattle.std.specs.List.{remove, slice_get}
pub use Rattle.std.specs.Str.{all_scalars, chars}
pub use Rattle.std.specs.String.{string_bytes}
pub use Rattle.tp_change.specs.ChangeHash.{hash_of}
pub use Rattle.tp_change.specs.Elements.{deletes, inserts, next_counter}
pub use Rattle.tp_layout.specs.Limits.{IsActor, IsChange, AllChanges}
pub use Rattle.tp_layout.specs.Spelling.{spelling}
pub use Rattle.tp_layout.specs.declared.limits.TheConstants.{COUNTERS_END, MAX_BYTES, MAX_DEPS, MAX_MESSAGE_BYTES, MAX_OPS}
pub use Rattle.tp_layout.specs.declared.parts.ChangeParts.{ChangeParts}
pub use Rattle.tp_edit.specs.EditRecords.{records_of_edit, visible_ids}
pub use Rattle.tp_edit.specs.Splices.{AllInRange, AllScalars, all_spliced, total_count}
pub use Rattle.tp_edit.specs.declared.splice.Splice.{Splice}
pub use Rattle.tp_history.specs.Fit.{cause, count_by, most_changes}
pub use Rattle.tp_history.specs.Named.{has, has_all}
pub use Rattle.tp_history.specs.Past.{past}
pub use Rattle.tp_history.specs.Sound.{Sound}
pub use Rattle.tp_list.specs.Members.{In, SameMembers}
pub use Rattle.tp_opid.specs.Insert.{Insert}
pub use Rattle.tp_opid.specs.declared.actor.Actor.{Actor}
pub use Rattle.tp_opid.specs.declared.doc_id.DocId.{DocId}
pub use Rattle.tp_opid.specs.declared.hash.Hash.{Hash}
pub use Rattle.tp_opid.specs.declared.op_id.OpId.{OpId}
pub use Rattle.tp_rga.specs.Order.{IsInOrder}
pub use Rattle.tp_rga.specs.Shown.{visible_of}
pub use Rattle.tp_edit.specs.Text.{IsTextOf}
