-- The names that several proofs cite, passed on from one place. Declares nothing.
pub use Rattle.std.proofs.Common.{Bool, Err, List, MatchOption, None, Ok, Option, Result, Some, [], add-one, ap, append-nil, arith, cond, drop, drop-cons, false, get_or, if◌then◌else◌, inl, inr, is_ok, length, length-append, map, nat_le, nat_lt, not, refl, replicate, set, subst, suc, sym, take, true, zero, ℕ, ◌&&◌, ◌++◌, ◌+◌, ◌-◌, ◌<◌, ◌==◌, ◌||◌, ◌↔◌, ◌∙◌, ◌∷◌, ◌≡◌, ◌≢◌, ◌≤◌, ◌⊎◌}
pub use Rattle.std.proofs.lemmas.Bool.{eq-eqb, eqb-true}
pub use Rattle.std.proofs.lemmas.Bool.Decides.{nat_tests}
pub use Rattle.std.proofs.lemmas.List.{drop_all, get_or-replicate, get_or-set_other, get_or-set_same, get_or_past, length-replicate, take_all, take_more, with_items_is}
pub use Rattle.std.proofs.lemmas.Option.{slice_get_read, slice_get_within}
pub use Rattle.std.specs.List.{AllByRecursion, AllZip, remove, slice_get}
pub use Rattle.std.specs.Vec.{with_items}
pub use Rattle.tp_change.proofs.ElementLaws.{SameIds, grown, grown-ids, inserts_in-append, is_inserted-append, is_reference-same, ops_from-append, refers-append}
pub use Rattle.tp_change.specs.ChangeHash.{hash_of}
pub use Rattle.tp_change.specs.Elements.{element, inserts, inserts_in, is_inserted, is_reference, next_counter, refers}
pub use Rattle.tp_layout.specs.Limits.{IsChange, IsRecord}
pub use Rattle.tp_layout.specs.Counts.{count_in, count_of}
pub use Rattle.tp_change.specs.Operations.{deletes_from, id_of, op_count, ops_from, ops_in, ops_of, run}
pub use Rattle.tp_layout.specs.declared.parts.ChangeParts.{ChangeParts}
pub use Rattle.tp_layout.specs.declared.record.Record.{Record}
pub use Rattle.tp_layout.specs.declared.record.Record.TheVariants.{Delete, DeleteRun, Insert}
pub use Rattle.tp_ancestry.specs.AncestryState.{AncestryState}
pub use Rattle.tp_graph.specs.Before.{AreSet, IsClear, Marks, DescribesRecords}
pub use Rattle.tp_history.specs.ByActor.{HasOp, IsMaker}
pub use Rattle.tp_graph.specs.Covers.{all_inserted, all_there, covers, is_there, only_inserts}
pub use Rattle.tp_ancestry.specs.Deps.{IsBehind}
pub use Rattle.tp_ancestry.specs.VersionVectors.{IsKnown}
pub use Rattle.tp_history.specs.Fit.{most_changes}
pub use Rattle.tp_graph.specs.GraphState.{GraphState, IsWaiting, most_waiting}
pub use Rattle.tp_history.specs.Named.{HashesOnce, among, has, has_all}
pub use Rattle.tp_graph.specs.Marked.{AreMarked, IsMarked, IsMarkedAt}
pub use Rattle.tp_history.specs.Marks.{places_from}
pub use Rattle.tp_ancestry.specs.PastSets.{bits, holds, past_changes}
pub use Rattle.tp_history.specs.Past.{past}
pub use Rattle.tp_graph.specs.Waiting.{IsMissing, gather, gather_all, is_wanted}
pub use Rattle.tp_history.specs.Sound.{Sound}
pub use Rattle.tp_history.specs.declared.error.GraphError.{GraphError}
pub use Rattle.tp_history.specs.declared.error.GraphError.TheVariants.{BadReference, BadSeq, BadStart, Full, Known, MissingDeps, OutOfMemory, SeqClash, UnknownHead}
pub use Rattle.tp_graph.specs.declared.marked.Marked.{Marked}
pub use Rattle.tp_list.proofs.Members.{slice_get-there}
pub use Rattle.tp_list.proofs.RisingLaws.{In-put, In-put_other, put-In, put-rises}
pub use Rattle.tp_list.proofs.Tests.{both, both_left, both_right, neither, neither_left, neither_right, never, not_true, or_cases, or_left, or_right, same_test, truth}
pub use Rattle.tp_list.specs.Members.{AllIn, In}
pub use Rattle.tp_list.specs.Rising.{IsRising, put}
pub use Rattle.tp_opid.proofs.Orders.{hash_exact, hash_total, id_eq-itself, id_eq-same, same_actor-itself, same_actor-same}
pub use Rattle.tp_opid.specs.Order.{hash_cmp}
pub use Rattle.tp_opid.specs.Same.{id_eq, same_actor, same_hash}
pub use Rattle.tp_opid.specs.declared.actor.Actor.{Actor}
pub use Rattle.tp_opid.specs.declared.hash.Hash.{Hash}
pub use Rattle.tp_opid.specs.declared.op_id.OpId.{OpId}
pub use Rattle.tp_opid.specs.declared.op_id.Place.{Place}
pub use Rattle.tp_opid.specs.declared.op_id.Place.TheVariants.{After}
