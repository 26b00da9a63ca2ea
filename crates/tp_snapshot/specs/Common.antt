-- Words of the crates below that contracts cite, passed on from one place. Declares nothing.
pub use Rattle.std.specs.List.{list_any, slice_get}
pub use Rattle.std.specs.Option.{option_map}
pub use Rattle.std.specs.Str.{chars}
pub use Rattle.std.specs.String.{string_bytes}
pub use Rattle.tp_change.specs.ChangeHash.{hash_of}
pub use Rattle.tp_change.specs.Elements.{deletes, inserts}
pub use Rattle.tp_layout.specs.Limits.{AllChanges}
pub use Rattle.tp_layout.specs.declared.parts.ChangeParts.{ChangeParts}
pub use Rattle.tp_history.specs.Fit.{most_changes}
pub use Rattle.tp_history.specs.Past.{past}
pub use Rattle.tp_history.specs.Sound.{Sound}
pub use Rattle.tp_list.specs.Members.{In}
pub use Rattle.tp_opid.specs.Insert.{Insert}
pub use Rattle.tp_opid.specs.declared.actor.Actor.{Actor}
pub use Rattle.tp_opid.specs.declared.hash.Hash.{Hash}
pub use Rattle.tp_opid.specs.declared.op_id.OpId.{OpId}
pub use Rattle.tp_rga.specs.Order.{IsInOrder}
pub use Rattle.tp_rga.specs.Shown.{is_removed, visible_of, visible_before}
pub use Rattle.tp_edit.specs.Text.{IsTextOf, chars_of}
