-- The names that several proofs cite, passed on from one place. Declares nothing.
pub use Rattle.std.proofs.Common.{Bool, Err, Global, IfErr, IfOk, IsSomeAnd, List, None, Ok, Option, Result, Some, Vec, [], add-one, ap, append-nil, append_assoc, arith, cond, drop, drop-cons, false, filter, get_or, inl, inr, leb-true, length, map, min, nat_le, nat_lt, not, refl, subst, suc, sym, take, true, zero, ℕ, ◌&&◌, ◌*◌, ◌++◌, ◌+◌, ◌-◌, ◌<◌, ◌==◌, ◌^◌, ◌||◌, ◌↔◌, ◌∙◌, ◌∷◌, ◌≡◌, ◌≤◌, ◌⊎◌}
pub use Rattle.std.proofs.lemmas.Bool.{cases_lt}
pub use Rattle.std.proofs.lemmas.Bool.Decides.{nat_tests}
pub use Rattle.std.proofs.lemmas.List.{drop-map, get_or_past, length-append, length-map, length-take, take-append-drop, take-map, take_more}
pub use Rattle.std.proofs.lemmas.Option.{slice_get_read}
pub use Rattle.std.specs.List.{flat_map, insert, list_any, slice_get}
pub use Rattle.std.specs.Option.{option_map}
pub use Rattle.std.specs.declared.cmp.Ordering.TheVariants.{Equal, Greater, Less}
pub use Rattle.tp_change.specs.ChangeHash.{hash_of}
pub use Rattle.tp_layout.specs.Spelling.{spelling}
pub use Rattle.tp_layout.specs.declared.parts.ChangeParts.{ChangeParts}
pub use Rattle.tp_layout.specs.Limits.{AllChanges}
pub use Rattle.tp_document.specs.DocState.{DocState}
pub use Rattle.tp_history.proofs.HeadsLaws.{In-among, among-In, has_all-heads, heads_rise, past-heads}
pub use Rattle.tp_history.proofs.NamedLaws.{In-has, In-has_all, In-names, has-In, has-left, has_all-In, lacks-fewer, names-In}
pub use Rattle.tp_ancestry.proofs.OutsideLaws.{length-marks_since}
pub use Rattle.tp_history.proofs.PastLaws.{past-In, past-more}
pub use Rattle.tp_history.proofs.SetLaws.{NoTwins, chain_over, heads_decide}
pub use Rattle.tp_history.proofs.SoundLaws.{Fits-at, deps_first, deps_there, hashes_apart}
pub use Rattle.tp_history.specs.Fit.{defect, most_changes, or_full}
pub use Rattle.tp_history.specs.Heads.{heads}
pub use Rattle.tp_history.specs.Marks.{marked_more, marks, pick}
pub use Rattle.tp_history.specs.Named.{HashesApart, among, has, has_all, is_needed, names}
pub use Rattle.tp_ancestry.specs.Outside.{IsNext, IsNextBefore, IsOutside}
pub use Rattle.tp_history.specs.Past.{past}
pub use Rattle.tp_graph.specs.Waiting.{IsMissing, is_wanted}
pub use Rattle.tp_history.specs.Since.{marks_since}
pub use Rattle.tp_history.specs.Sound.{Sound}
pub use Rattle.tp_history.specs.declared.error.GraphError.{GraphError}
pub use Rattle.tp_history.specs.declared.error.GraphError.TheVariants.{Known}
pub use Rattle.tp_list.proofs.Members.{In-append, In-filter, In-left, In-middle, In-right, In-slice_get, SameMembers-trans, filter-In, slice_get-there}
pub use Rattle.tp_list.proofs.RisingLaws.{In-put, In-put_other, In-rising, below-In, one_list, put-In, put-rises, rising-In, rising-rises}
pub use Rattle.tp_list.proofs.Tests.{neither, neither_left, neither_right, never, not_true, or_cases, or_left, or_right, truth}
pub use Rattle.tp_list.specs.Members.{AllIn, In, SameMembers}
pub use Rattle.tp_list.specs.Rising.{IsBelowAll, IsRising, put, put_at, rising}
pub use Rattle.tp_message.specs.Message.{MessageParts, message_of_parts}
pub use Rattle.tp_message.specs.declared.error.SyncError.{SyncError}
pub use Rattle.tp_message.specs.declared.error.SyncError.TheVariants.{BadChange, BadMessage, NotKept, OtherDocument, OutOfMemory, PendingFull, TooManyHeads}
pub use Rattle.tp_message.specs.declared.limits.TheConstants.{MAX_CHANGES, MAX_HASHES, MAX_KNOWN}
pub use Rattle.tp_opid.proofs.Orders.{hash_exact, hash_total, same_doc-apart, same_doc-same, same_hash-itself, same_hash-same}
pub use Rattle.tp_opid.specs.Order.{hash_cmp}
pub use Rattle.tp_opid.specs.declared.hash.Hash.{Hash}
pub use Rattle.tp_receive.specs.Intake.{IsIntakeDone, Intake, SomeTurns, begin, intake}
pub use Rattle.tp_sync.specs.Due.{IsInfixOf, IsRest, IsStretch, MovesOn, starts_over, begins_at, message_changes, due, due_from, due_of, is_any, is_due, is_message_full, is_truncated, take_due}
pub use Rattle.tp_sync.specs.Exchange.{Exchanges, IsOtherOnly, RefusesPass, PassesMessage, RefusesKnownAlone, Replies, RefusesReply, Side, ExchangeStops, side}
pub use Rattle.tp_sync.specs.Known.{IsPowerBeforeEnd, before_end, known_hashes, powers_before_end}
pub use Rattle.tp_sync.specs.State.{SyncParts, declared_hashes, new_sync_state}
pub use Rattle.tp_sync.specs.Wanting.{HasPut, heard_of, is_absent, wanted_hashes}
pub use Rattle.tp_sync.specs.declared.due.Stretch.{Stretch}
pub use Rattle.tp_sync.specs.declared.exchanging.Exchanged.{Exchanged}
pub use Rattle.tp_sync.specs.declared.limits.TheConstants.{FULL_BYTES}
