-- Names that proofs cite, passed on from one place. Declares nothing.
pub use Rattle.std.proofs.Common.{Bool, Err, IfSome, List, None, Option, Some, [], ap, append-nil, append_assoc, arith, cond, drop, encode_utf8, encode_utf8_all, false, get_or, inl, inr, length, map, nat_lt, not, position, refl, subst, suc, sym, take, true, zero, ℕ, ◌&&◌, ◌++◌, ◌+◌, ◌-◌, ◌<◌, ◌==◌, ◌||◌, ◌∙◌, ◌∷◌, ◌≡◌, ◌≤◌, ◌⊎◌}
pub use Rattle.std.proofs.lemmas.Bool.Decides.{nat_tests}
pub use Rattle.std.proofs.lemmas.List.{drop_all, length-append, length-map, map-append, take-append-drop, take_all, take_more}
pub use Rattle.std.proofs.lemmas.List.Elements.{filter-append}
pub use Rattle.std.proofs.lemmas.List.Sorted.{list_any-IsPermutation}
pub use Rattle.std.proofs.lemmas.Option.{slice_get-map}
pub use Rattle.std.proofs.lemmas.Str.{chars-encodes, encodes-append}
pub use Rattle.std.specs.List.{AllByRecursion, slice_get}
pub use Rattle.std.specs.List.Sorted.{IsBinarySearchResult, IsSorted}
pub use Rattle.std.specs.Option.{option_map}
pub use Rattle.std.specs.Str.{all_scalars, chars}
pub use Rattle.std.specs.String.{string_bytes}
pub use Rattle.tp_change.proofs.ElementLaws.{In-inserts, inserts-In, inserts-more, inserts_in-append, next_counter-above}
pub use Rattle.tp_change.proofs.Numbered.{Numbered, Numbered-ops_of}
pub use Rattle.tp_change.proofs.OpsLaws.{length-ops_of}
pub use Rattle.tp_change.specs.ChangeHash.{hash_of}
pub use Rattle.tp_change.specs.Elements.{deletes, deletes_in, inserts, inserts_in}
pub use Rattle.tp_layout.specs.Limits.{IsRecord, AllChanges}
pub use Rattle.tp_change.specs.OpIds.{IsOwnId, op_id}
pub use Rattle.tp_change.specs.Operations.{deletes_from, id_of, op_count, ops_from, ops_of, run}
pub use Rattle.tp_change.specs.declared.op.Op.{Op}
pub use Rattle.tp_layout.specs.declared.parts.ChangeParts.{ChangeParts}
pub use Rattle.tp_layout.specs.declared.record.Record.{Record}
pub use Rattle.tp_snapshot.specs.Showing.{DocumentInvariant}
pub use Rattle.tp_snapshot.specs.Snapshots.{AreTargets, IsAuthorOf, StretchPrecedes, StartsBefore, is_in_stretches, deletes_by, inserts_by, is_within, shown_by, stretch_cmp}
pub use Rattle.tp_snapshot.specs.Showing.{HasCharAt, HasElementAt, HasLength, HasPosition}
pub use Rattle.tp_history.proofs.CountLaws.{own_past}
pub use Rattle.tp_history.proofs.PastLaws.{length-past, past-In}
pub use Rattle.tp_history.proofs.SoundLaws.{Fits-at, Sound-before, Sound-prefix, deps_first, past-closed, sound_pasts}
pub use Rattle.tp_history.proofs.TreeLaws.{inserts_tree}
pub use Rattle.tp_ancestry.specs.Clocks.{IsClockOf, end_at, end_of, has_op}
pub use Rattle.tp_history.specs.Fit.{most_changes}
pub use Rattle.tp_history.specs.Named.{has}
pub use Rattle.tp_history.specs.Past.{past}
pub use Rattle.tp_history.specs.Sound.{Sound}
pub use Rattle.tp_list.proofs.Members.{In-append, In-filter, In-left, In-right, In-slice_get, In-split, SameMembers-sym, filter-In}
pub use Rattle.tp_list.proofs.Tests.{both_right, not_true, or_cases, or_right, same_test, truth}
pub use Rattle.tp_list.specs.Members.{AllIn, In, SameMembers}
pub use Rattle.tp_opid.proofs.Orders.{id_eq-flip, id_eq-itself, id_eq-same, same_actor-apart, same_actor-flip, same_actor-same}
pub use Rattle.tp_opid.proofs.Trees.{IsTree-same}
pub use Rattle.tp_opid.specs.Insert.{Insert}
pub use Rattle.tp_opid.specs.Same.{id_eq, same_actor}
pub use Rattle.tp_opid.specs.Tree.{IsTree}
pub use Rattle.tp_opid.specs.declared.actor.Actor.{Actor}
pub use Rattle.tp_opid.specs.declared.hash.Hash.{Hash}
pub use Rattle.tp_opid.specs.declared.op_id.OpId.{OpId}
pub use Rattle.tp_rga.proofs.OneOrder.{one_order, order_of_part, order_of_set, shown_of_set}
pub use Rattle.tp_rga.proofs.Walking.{seen_at, seen_end, seen_within}
pub use Rattle.tp_rga.specs.Order.{IsInOrder}
pub use Rattle.tp_rga.specs.Shown.{is_removed, seen_of, visible_of, visible_before}
pub use Rattle.tp_edit.specs.Text.{IsTextOf, chars_of}
