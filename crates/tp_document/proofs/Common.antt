-- Names that proofs cite, passed on from one place. Declares nothing.
pub use Rattle.std.proofs.Common.{Bool, Err, IfOk, List, MatchOption, None, Ok, Option, Result, Some, [], add-one, ap, append_assoc, arith, cond, drop, drop-cons, encode_utf8_all, false, get_or, inl, inr, length, nat_lt, not, refl, subst, suc, sym, take, true, zero, ℕ, ◌++◌, ◌+◌, ◌<◌, ◌==◌, ◌^◌, ◌||◌, ◌↔◌, ◌∙◌, ◌∷◌, ◌≡◌, ◌≤◌}
pub use Rattle.std.proofs.lemmas.Bool.Decides.{nat_tests}
pub use Rattle.std.proofs.lemmas.List.{length-append, length-map, length-take-le, take-append-drop, take_more}
pub use Rattle.std.proofs.lemmas.Option.{get_or_from_slice_get, slice_get-get_or, slice_get_read}
pub use Rattle.std.proofs.lemmas.Str.{encodes-chars, scalars-chars}
pub use Rattle.std.specs.List.{AllByRecursion, flat_map, slice_get}
pub use Rattle.std.specs.Str.{all_scalars, chars}
pub use Rattle.std.specs.String.{string_bytes}
pub use Rattle.tp_change.proofs.ElementLaws.{In-inserts, deletes-push, inserts-In, inserts-more, inserts-push, next_counter-above, one-next_counter}
pub use Rattle.tp_change.proofs.Numbered.{Numbered, Numbered-ops_of}
pub use Rattle.tp_change.proofs.OpsLaws.{length-ops_of}
pub use Rattle.tp_change.specs.ChangeHash.{hash_of}
pub use Rattle.tp_change.specs.Elements.{deletes, deletes_in, element, inserts, inserts_in, next_counter, refers}
pub use Rattle.tp_layout.specs.Limits.{IsActor, IsChange, IsHash, IsRecord, AllChanges}
pub use Rattle.tp_change.specs.Operations.{id_of, op_count, ops_from, ops_of}
pub use Rattle.tp_change.specs.declared.op.Op.{Op}
pub use Rattle.tp_layout.specs.declared.parts.ChangeParts.{ChangeParts}
pub use Rattle.tp_layout.specs.declared.record.Record.{Record}
pub use Rattle.tp_document.specs.Applying.{HasMergeOutcome, kept_by}
pub use Rattle.tp_document.specs.DocError.{receiving}
pub use Rattle.tp_document.specs.DocState.{DocState, HasJust}
pub use Rattle.tp_snapshot.specs.Showing.{DocumentInvariant}
pub use Rattle.tp_document.specs.Editing.{AreInRange, EditRequest, AsksNothing, IsAcceptedEdit, IsEdit, RefusesMaking, asking}
pub use Rattle.tp_document.specs.Forking.{changes_at_places, with_change}
pub use Rattle.tp_document.specs.Making.{AsksSome, HasCounters, IsAllowed, IsBad, IsTypedAsk, IsWithinSize, parts_made}
pub use Rattle.tp_document.specs.Merging.{absent}
pub use Rattle.tp_snapshot.specs.Showing.{HasCharAt, HasElementAt, HasLength, HasPosition}
pub use Rattle.tp_document.specs.declared.error.DocError.{DocError}
pub use Rattle.tp_document.specs.declared.error.DocError.TheVariants.{CounterLimit, Full, HashTaken, NotKept, OtherDocument, OutOfMemory, OutOfRange, PendingFull, TooLong, TooManyHeads, TooManyOps, UnknownElement, UnknownHead}
pub use Rattle.tp_edit.specs.EditRecords.{ids_of, records_of_edit, visible_ids}
pub use Rattle.tp_edit.specs.Splices.{AllInRange, all_spliced, inserted_chars, splice_at, total_count}
pub use Rattle.tp_edit.specs.declared.splice.Splice.{Splice}
pub use Rattle.tp_history.proofs.CountLaws.{count_by-length, own_past, seqs_run}
pub use Rattle.tp_history.proofs.HeadsLaws.{has_all-heads, heads-In, heads_rise, past-heads}
pub use Rattle.tp_history.proofs.CauseLaws.{Fits-from_cause}
pub use Rattle.tp_history.proofs.PastLaws.{length-past, past-In}
pub use Rattle.tp_history.proofs.SoundLaws.{Fits-at, Sound-before, Sound-push, defect-from_Fits, deps_first, sound-induct, sound_pasts}
pub use Rattle.tp_history.proofs.TreeLaws.{inserts_tree}
pub use Rattle.tp_history.specs.Fit.{cause, clashes, count_by, defect, most_changes, or_full}
pub use Rattle.tp_history.specs.Named.{has, has_all, is_needed, names}
pub use Rattle.tp_history.specs.Past.{past}
pub use Rattle.tp_history.specs.Since.{past_places}
pub use Rattle.tp_history.specs.Sound.{Fits, Sound}
pub use Rattle.tp_list.proofs.Members.{In-append, In-filter, In-last, In-left, In-slice_get}
pub use Rattle.tp_list.proofs.Tests.{not_true, or_cases, truth}
pub use Rattle.tp_list.specs.Members.{AllIn, In, SameMembers}
pub use Rattle.tp_opid.proofs.Orders.{id_eq-same, same_actor-apart, same_actor-same, same_doc-apart, same_doc-same, same_hash-same}
pub use Rattle.tp_opid.proofs.Trees.{IsThere-grow}
pub use Rattle.tp_opid.specs.Insert.{Insert}
pub use Rattle.tp_opid.specs.Order.{hash_cmp}
pub use Rattle.tp_opid.specs.Same.{id_eq, same_actor, same_doc, same_hash}
pub use Rattle.tp_opid.specs.Tree.{IsThere}
pub use Rattle.tp_opid.specs.declared.actor.Actor.{Actor}
pub use Rattle.tp_opid.specs.declared.doc_id.DocId.{DocId}
pub use Rattle.tp_opid.specs.declared.hash.Hash.{Hash}
pub use Rattle.tp_opid.specs.declared.op_id.OpId.{OpId}
pub use Rattle.tp_receive.proofs.TakingLaws.{OnOk-map, Stops-still}
pub use Rattle.tp_receive.specs.Intake.{Receiver, begin}
pub use Rattle.tp_receive.specs.Outcome.{HasOutcome, Outcome, ReceivesWith}
pub use Rattle.tp_rga.proofs.OneOrder.{one_order, order_exists, order_of_set, shown_of_set}
pub use Rattle.tp_rga.specs.Order.{IsInOrder}
pub use Rattle.tp_rga.specs.Shown.{is_removed, visible_of}
pub use Rattle.tp_edit.specs.Text.{IsTextOf, chars_of}
