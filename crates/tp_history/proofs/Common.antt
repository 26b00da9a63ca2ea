-- The names that several proofs cite, passed on from one place. Declares nothing.
pub use Rattle.std.proofs.Common.{Bool, Err, IfSome, IsTrue, List, None, Ok, OnErr, OnOk, Option, Result, Some, [], add-one, add-zero, ap, append-nil, append_assoc, arith, cond, drop, drop-cons, false, get_or, inl, inr, is_some, length, length-append, map, nat_le, nat_lt, not, refl, replicate, set, subst, suc, sym, take, true, zero, ℕ, ◌&&◌, ◌++◌, ◌+◌, ◌-◌, ◌<◌, ◌==◌, ◌||◌, ◌↔◌, ◌∙◌, ◌∷◌, ◌≡◌, ◌≢◌, ◌≤◌, ◌⊎◌}
pub use Rattle.std.proofs.Math.ListN.{get_or-append}
pub use Rattle.std.proofs.Math.Seq.{get_or-append_seam, take-append_seam}
pub use Rattle.std.proofs.lemmas.Bool.{cases_eq, cases_lt, eq-eqb, eqb-true}
pub use Rattle.std.proofs.lemmas.Bool.Decides.{nat_tests}
pub use Rattle.std.proofs.lemmas.List.{drop_all, length-replicate, length-set, length-take-le, take-append-drop, take-append-le, take_all, take_more, with_items_is}
pub use Rattle.std.proofs.lemmas.Map.Iter.{rest_all, rest_more}
pub use Rattle.std.proofs.lemmas.Nat.{and_le_r}
pub use Rattle.std.proofs.lemmas.Option.{get_or_from_slice_get, slice_get-get_or, slice_get_past, slice_get_read, slice_get_within}
pub use Rattle.std.specs.Cmp.{nat_cmp_is}
pub use Rattle.std.specs.List.{insert, slice_get}
pub use Rattle.std.specs.Map.{keys_of, lookup, values_of}
pub use Rattle.std.specs.Map.Iter.{deref}
pub use Rattle.std.specs.Ordering.{is_eq, nat_cmp}
pub use Rattle.std.specs.declared.cmp.Ordering.TheVariants.{Equal, Greater, Less}
pub use Rattle.tp_change.proofs.ElementLaws.{grown, grown-ids, inserts-In, inserts-append, inserts-more, inserts_in-append, is_inserted-In, is_inserted-more, le_both, next_counter-above, next_counter-same, refers-append, refers-same}
pub use Rattle.tp_change.specs.ChangeHash.{hash_of}
pub use Rattle.tp_change.specs.Elements.{element, inserts, inserts_in, is_inserted, is_reference, next_counter, refers}
pub use Rattle.tp_change.specs.Operations.{op_count, ops_of}
pub use Rattle.tp_layout.specs.declared.parts.ChangeParts.{ChangeParts}
pub use Rattle.tp_history.specs.ByActor.{AreBelow, HasActorAt, HasOp, IsByActor, IsMaker, ArePlacesBy, actor_word, list_or_none, listed_places, place_by, place_if_by, places_of}
pub use Rattle.tp_history.specs.Fit.{clashes, count_by, defect, defect_after, most_changes, or_clash, or_full}
pub use Rattle.tp_history.specs.Named.{HashesOnce, HashesApart, among, has, has_all, is_needed, names}
pub use Rattle.tp_history.specs.Heads.{heads, not_needed, without}
pub use Rattle.tp_history.specs.Marks.{marked_more, marks, marks_for, pick, places_from, marks_of_walk}
pub use Rattle.tp_history.specs.Notes.{AreCarried, AreInSlots, AreNoted, AreNotedWith, HasPlace, IsFree, IsLike, IsNotedAt, IsNotedBeside, IsReached, IsSlotFor, Notes, StandStill, FindsPlace, first_slot, first_word, note_at, place_in}
pub use Rattle.tp_history.specs.Past.{past, with_reached}
pub use Rattle.tp_history.specs.Places.{HasAt, ends_of, noted_word, place_from}
pub use Rattle.tp_history.specs.Reach.{Chain, InPast}
pub use Rattle.tp_history.specs.Since.{past_places, since}
pub use Rattle.tp_history.specs.Sound.{Fits, Sound, SoundAfter}
pub use Rattle.tp_history.specs.declared.by_actor.ByActor.{ByActor}
pub use Rattle.tp_history.specs.declared.error.GraphError.{GraphError}
pub use Rattle.tp_history.specs.declared.error.GraphError.TheVariants.{BadReference, BadSeq, BadStart, Known, MissingDeps, SeqClash}
pub use Rattle.tp_history.specs.declared.index.TheConstants.{NOWHERE, WINDOW}
pub use Rattle.tp_list.proofs.Members.{In-append, In-get_or, In-last, In-left, In-push, In-right, In-slice_get, In-split}
pub use Rattle.tp_list.proofs.RisingLaws.{In-put, In-put_other, In-rising, one_list, put-In, put-rises, rising-In, rising-rises}
pub use Rattle.tp_list.proofs.Tests.{both, both_left, both_right, neither, neither_left, neither_right, never, not_true, or_cases, or_left, or_right, same_test, truth}
pub use Rattle.tp_list.specs.Members.{AllIn, In, SameMembers}
pub use Rattle.tp_list.specs.Rising.{IsBelowAll, IsRising, put, put_at}
pub use Rattle.tp_opid.proofs.Orders.{Below-counter, hash_exact, hash_total, id_eq-same, same_actor-flip, same_actor-itself, same_actor-same, same_hash-itself, same_hash-same}
pub use Rattle.tp_opid.specs.Order.{hash_cmp}
pub use Rattle.tp_opid.specs.Same.{id_eq, same_actor, same_hash}
pub use Rattle.tp_opid.specs.declared.actor.Actor.{Actor}
pub use Rattle.tp_opid.specs.declared.hash.Hash.{Hash}
pub use Rattle.tp_opid.specs.declared.op_id.OpId.{OpId}
pub use Rattle.tp_opid.specs.declared.op_id.Place.{Place}
pub use Rattle.tp_opid.specs.declared.op_id.Place.TheVariants.{After, Start}
