-- The names that several proofs cite, passed on from one place. Declares nothing.
pub use Rattle.std.proofs.Common.{Bool, Err, IsSome, List, MatchBool, None, Ok, OnOk, Option, Result, Some, [], ap, append-nil, arith, cond, drop, encode_utf8_all, false, inl, inr, is_err, length, min, nat_le, refl, slice_set, subst, suc, sym, take, true, zero, ℕ, ◌&&◌, ◌++◌, ◌+◌, ◌-◌, ◌<◌, ◌^◌, ◌||◌, ◌∙◌, ◌∷◌, ◌≡◌, ◌≤◌, ◌⊎◌}
pub use Rattle.std.proofs.lemmas.List.{length-append, length-map, length-take, take_all}
pub use Rattle.std.proofs.lemmas.Option.{slice_get_read}
pub use Rattle.std.specs.List.{slice_get}
pub use Rattle.tp_change.specs.ChangeHash.{hash_of}
pub use Rattle.tp_layout.specs.declared.parts.ChangeParts.{ChangeParts}
pub use Rattle.tp_event.specs.Lives.{member_state}
pub use Rattle.tp_event.specs.Made.{HashesAreNoted, IsNotedFor, MayBeMade, MadeState, is_noted}
pub use Rattle.tp_event.specs.Making.{AnswersAt, IsRunningEdit, IsWould, NotesAnswer, entered_of, heads_named, is_kept_in, is_made}
pub use Rattle.tp_event.specs.Meeting.{EventStep}
pub use Rattle.tp_event.specs.Members.{DisarmsAt, MemberSteps, MergesAt, OpensAgainAt, OpensOn, recovered_changes, left_with}
pub use Rattle.tp_event.specs.States.{world_of}
pub use Rattle.tp_event.specs.Views.{answer_of, event_call_of, during_of, event_of, event_reply_of}
pub use Rattle.tp_event.specs.contracts.member.Member.{the_view}
pub use Rattle.tp_event.specs.declared.event.Call.{Call}
pub use Rattle.tp_history.proofs.NamedLaws.{In-has, has-append}
pub use Rattle.tp_history.specs.Named.{has}
pub use Rattle.tp_headline.proofs.PlaceLaws.{slice_get-set, slice_get-set_same, slice_set-still}
pub use Rattle.tp_headline.specs.Event.{Crash, Event, called_in, wire_entries_of, peers_of, running_of}
pub use Rattle.tp_headline.specs.Refusing.{IsEditAt, IsEditOf, MayHappen, WouldEdit}
pub use Rattle.tp_headline.specs.Reply.{EventReply, reply_to}
pub use Rattle.tp_headline.specs.World.{WireEntry, HasPeer, World, with_made, with_peer, with_used}
pub use Rattle.tp_recovery.proofs.RecordLaws.{length-record_of}
pub use Rattle.tp_recovery.specs.Recovery.{IsHistory, Recovers, recovery_of}
pub use Rattle.tp_list.proofs.Tests.{neither, never, not_true, or_cases, or_right, truth}
pub use Rattle.tp_list.specs.Members.{AllIn, In}
pub use Rattle.tp_opid.specs.Same.{same_hash}
pub use Rattle.tp_opid.specs.declared.actor.Actor.{Actor}
pub use Rattle.tp_opid.specs.declared.hash.Hash.{Hash}
pub use Rattle.tp_peer.specs.PeerState.{PeerState, disarming, opened_peer, gained_changes}
pub use Rattle.tp_peer.specs.PeerStep.{Edit, Merge, Merged, PeerStep, Refused, Runs, needs_stopped, reply_of_result}
pub use Rattle.tp_peer.specs.Taking.{ReceivesAndAppends, journal_of, report_of}
