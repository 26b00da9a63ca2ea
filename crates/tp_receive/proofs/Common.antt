-- Names that proofs cite, passed on from one place. Declares nothing.
pub use Rattle.std.proofs.Common.{Bool, Err, IfErr, IsOk, IsSome, List, None, Ok, OnErr, OnOk, Option, Result, Some, [], ap, append-nil, append_assoc, arith, cond, drop, false, get_or, inl, inr, length, length-append, nat_lt, not, refl, replicate, set, subst, suc, sym, take, true, zero, ℕ, ◌++◌, ◌+◌, ◌-◌, ◌<◌, ◌==◌, ◌||◌, ◌∙◌, ◌∷◌, ◌≡◌, ◌≤◌, ◌⊎◌}
pub use Rattle.std.proofs.lemmas.Bool.Decides.{nat_tests}
pub use Rattle.std.proofs.lemmas.List.{drop-set-lt, drop_more, get_or-set_other, length-set, set-get_or, take_all, take_more, take_more_set}
pub use Rattle.std.proofs.lemmas.Option.{get_or_from_slice_get, slice_get-get_or, slice_get_within}
pub use Rattle.std.proofs.lemmas.Slice.Zip.{AllZip-long, all_zipped_more}
pub use Rattle.std.specs.List.{AllZip, remove, slice_get, zip}
pub use Rattle.tp_change.specs.ChangeHash.{hash_of}
pub use Rattle.tp_layout.specs.declared.parts.ChangeParts.{ChangeParts}
pub use Rattle.tp_history.proofs.CauseLaws.{Fits-from_cause, cause-from_Fits, enters}
pub use Rattle.tp_history.proofs.NamedLaws.{In-has, has-In, has-append, has-left, has_all-In, has_all-more}
pub use Rattle.tp_history.proofs.SetLaws.{Fits-part, defect-later}
pub use Rattle.tp_history.proofs.SoundLaws.{Sound-push, not_among}
pub use Rattle.tp_history.specs.Fit.{cause, clashes, defect, defect_after, most_changes, or_clash, or_full}
pub use Rattle.tp_history.specs.Named.{HashesOnce, HashesApart, among, has, has_all}
pub use Rattle.tp_graph.specs.GraphState.{most_waiting}
pub use Rattle.tp_history.specs.Sound.{Fits, Sound}
pub use Rattle.tp_history.specs.declared.error.GraphError.{GraphError}
pub use Rattle.tp_history.specs.declared.error.GraphError.TheVariants.{BadReference, BadSeq, BadStart, Full, Known, MissingDeps, SeqClash, UnknownHead}
pub use Rattle.tp_list.proofs.Members.{In-append, In-last, In-left, In-right, In-slice_get, slice_get-there}
pub use Rattle.tp_list.proofs.Tests.{neither, neither_left, neither_right, never, not_true, or_cases, or_left, or_right, truth}
pub use Rattle.tp_list.specs.Members.{AllIn, In, SameMembers}
pub use Rattle.tp_opid.proofs.Orders.{same_actor-same, same_hash-itself, same_hash-same}
pub use Rattle.tp_opid.specs.Same.{same_hash}
pub use Rattle.tp_opid.specs.declared.hash.Hash.{Hash}
pub use Rattle.tp_receive.specs.Delivery.{delivery, is_full, slots, takes_slot, undeliverable, with_slots}
pub use Rattle.tp_receive.specs.HashSets.{IsHashSetOf, has_hash}
pub use Rattle.tp_receive.specs.Intake.{IsIntakeDone, Intake, DecidesChange, NextChange, NextComes, NextWaits, Receiver, SomeTurns, Stops, Turn, Turns, begin, enter, hold, intake, receiver, refuse}
pub use Rattle.tp_receive.specs.Lacking.{GainsOnly, KnowsApart, KnowsLack, Lacks, LacksApart, lacks_it}
pub use Rattle.tp_receive.specs.Receiving.{AllWait, Between, EachOnce, EntersAfter, Grows, Receives, SeqsApart, hashes, held_of, is_refusal, lacks_deps}
pub use Rattle.tp_receive.specs.Replies.{Alike, KeepsAll, LosesNone, NoneDropped, Progress, Results, WasRefused}
pub use Rattle.tp_receive.specs.Trying.{IsEarliest, WaitsOrIsDropped, IsNoted, TriesChange, RefusesTry}
pub use Rattle.tp_receive.specs.declared.error.ReceiveError.{ReceiveError}
pub use Rattle.tp_receive.specs.declared.error.ReceiveError.TheVariants.{NotKept, OutOfMemory, PendingFull}
pub use Rattle.tp_receive.specs.declared.keeper.KeepError.{KeepError}
