-- The names that several proofs cite, passed on from one place. Declares nothing.
pub use Rattle.std.proofs.Common.{Bool, Err, Global, IfOk, List, MatchOption, None, Ok, Option, Result, Some, Vec, [], add-one, ap, append-nil, append_assoc, arith, cond, drop, drop-cons, ext_get_or, false, filter, get_or, inl, inr, is_some, length, length-append, map, nat_le, nat_lt, not, refl, subst, suc, sym, take, true, zero, ℕ, ◌&&◌, ◌++◌, ◌+◌, ◌-◌, ◌<◌, ◌||◌, ◌↔◌, ◌∙◌, ◌∷◌, ◌≡◌, ◌≤◌, ◌⊎◌}
pub use Rattle.std.proofs.lemmas.Bool.{cases_lt}
pub use Rattle.std.proofs.lemmas.Bool.Decides.{nat_tests}
pub use Rattle.std.proofs.lemmas.Fn.{filter_same}
pub use Rattle.std.proofs.lemmas.List.{drop_all, get_or-map, get_or-take, get_or_past, length-map, length-take-le, map-append, take-append-drop, take_all, take_more, take_more_same}
pub use Rattle.std.proofs.lemmas.Option.{IfSome_then, get_or_from_slice_get, slice_get_read, slice_get_within}
pub use Rattle.std.specs.List.{AllZip, list_any, slice_get}
pub use Rattle.std.specs.Map.{lookup}
pub use Rattle.std.specs.Option.{IsSomeAnd, unwrap_or}
pub use Rattle.std.specs.Vec.{vec_len}
pub use Rattle.std.specs.declared.cmp.Ordering.TheVariants.{Equal}
pub use Rattle.tp_change.proofs.ElementLaws.{later-assoc, later-end, later-left, later-most, later-right, le_both, next_counter-above, next_counter-least, next_counter-push, one-next_counter}
pub use Rattle.tp_change.specs.ChangeHash.{hash_of}
pub use Rattle.tp_change.specs.Elements.{later, next_counter}
pub use Rattle.tp_change.specs.Operations.{op_count}
pub use Rattle.tp_layout.specs.declared.parts.ChangeParts.{ChangeParts}
pub use Rattle.tp_ancestry.specs.AncestryState.{AncestryState}
pub use Rattle.tp_history.specs.ByActor.{ArePlacesBy}
pub use Rattle.tp_ancestry.specs.Clocks.{HasEnds, IsClockOf, end_at, end_of}
pub use Rattle.tp_ancestry.specs.Deps.{HasJoined, IsBehind, IsJoined}
pub use Rattle.tp_ancestry.specs.VersionVectors.{ArePlaces, IsVectorOf, IsKnown, IsPlaced, held_from, is_held, is_reached, reaches, same_author, same_author_of, is_reached_by_any}
pub use Rattle.tp_history.specs.Fit.{cause, count_by, most_changes}
pub use Rattle.tp_history.specs.Named.{HashesOnce, has, has_all, is_needed, names}
pub use Rattle.tp_history.specs.Heads.{heads}
pub use Rattle.tp_history.specs.Marks.{marked_more, marks, pick, marks_of_walk}
pub use Rattle.tp_history.specs.Notes.{IsNotedAt}
pub use Rattle.tp_ancestry.specs.Outside.{AreOutsideMarks, first_place_of, marked_of}
pub use Rattle.tp_ancestry.specs.PastSets.{IsPastSetIn, bits, holds, past_changes, prefix_of}
pub use Rattle.tp_history.specs.Past.{past}
pub use Rattle.tp_ancestry.specs.Pasts.{AreVectorsAt, ArePasts, IsVectorAt, IsSpan}
pub use Rattle.tp_history.specs.Places.{ends_of, place_from}
pub use Rattle.tp_history.specs.Reach.{Chain}
pub use Rattle.tp_history.specs.Since.{marks_since, since, skip}
pub use Rattle.tp_history.specs.Sound.{Fits, Sound}
pub use Rattle.tp_ancestry.specs.declared.vector.VersionVector.{VersionVector}
pub use Rattle.tp_ancestry.specs.declared.outside.OutsideMarks.{OutsideMarks}
pub use Rattle.tp_ancestry.specs.declared.past_set.PastSet.{PastSet}
pub use Rattle.tp_ancestry.specs.declared.pasts.VectorAt.{VectorAt}
pub use Rattle.tp_list.proofs.Members.{In-append, In-get_or, In-index, In-left, In-push, In-right, In-slice_get, In-split, slice_get-there}
pub use Rattle.tp_list.proofs.Tests.{both, both_left, both_right, never, not_true, or_cases, or_left, or_right, same_test, truth}
pub use Rattle.tp_list.specs.Members.{AllIn, In}
pub use Rattle.tp_opid.proofs.Orders.{same_actor-flip, same_actor-itself, same_actor-same, same_actor-tied, same_hash-itself, same_hash-same}
pub use Rattle.tp_opid.specs.Order.{actor_cmp, hash_cmp}
pub use Rattle.tp_opid.specs.Same.{same_actor, same_hash}
pub use Rattle.tp_opid.specs.declared.actor.Actor.{Actor}
pub use Rattle.tp_opid.specs.declared.hash.Hash.{Hash}
