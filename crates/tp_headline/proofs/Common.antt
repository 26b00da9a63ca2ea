-- The names that several proofs cite, passed on from one place. Declares nothing.
pub use Rattle.std.proofs.Common.{Bool, IsSome, is_some, List, None, Option, Some, [], ap, append-nil, append_assoc, arith, cond, drop, false, filter, inl, inr, length, length-append, map, nat_le, option_map, refl, slice_set, subst, suc, sym, take, true, zero, ℕ, ◌++◌, ◌+◌, ◌<◌, ◌∙◌, ◌∷◌, ◌≡◌, ◌≤◌, ◌⊎◌, ◌||◌}
pub use Rattle.std.proofs.Math.Seq.{drop-append_seam, take-append-add, take-length}
pub use Rattle.std.proofs.lemmas.List.{append_cancel_left, drop-map, length-map, map-append, take-append-drop, take-map, take_all}
pub use Rattle.std.specs.List.{slice_get}
pub use Rattle.tp_change.specs.ChangeHash.{hash_of}
pub use Rattle.tp_layout.specs.Limits.{IsChange, AllChanges}
pub use Rattle.tp_layout.specs.declared.parts.ChangeParts.{ChangeParts}
pub use Rattle.tp_document.proofs.TextLaws.{text_at_all_heads, text_of_a_set}
pub use Rattle.tp_document.specs.Merging.{absent}
pub use Rattle.tp_history.proofs.HeadsLaws.{has_all-heads, past-heads}
pub use Rattle.tp_history.proofs.CauseLaws.{Fits-from_cause, cause-from_Fits}
pub use Rattle.tp_history.proofs.NamedLaws.{In-has, In-has_all, has-In, has_all-In, has_all-more}
pub use Rattle.tp_history.proofs.PastLaws.{past-In, past-more}
pub use Rattle.tp_history.proofs.SetLaws.{Fits-part, Fits-whole, NoTwins, past-same}
pub use Rattle.tp_history.proofs.SoundLaws.{Fits-at, Fits-past, Sound-before, Sound-prefix, Sound-push, deps_first, deps_there, hashes_apart, sound-induct, sound_pasts}
pub use Rattle.tp_history.specs.Fit.{cause, clashes, most_changes}
pub use Rattle.tp_history.specs.Heads.{heads}
pub use Rattle.tp_history.specs.Named.{HashesApart, has, has_all}
pub use Rattle.tp_history.specs.Past.{past}
pub use Rattle.tp_history.specs.Sound.{Fits, Sound}
pub use Rattle.tp_headline.specs.Call.{Alone, Deliver, Merge}
pub use Rattle.tp_headline.specs.Calling.{Calls, IsAlone, IsCall, after_call, heads_at, made_by, noting}
pub use Rattle.tp_headline.specs.WorldInvariant.{WorldInvariant, IsCarried, IsMessageOf, LivesApart}
pub use Rattle.tp_headline.specs.Coherent.{Coherent, IsFaithful}
pub use Rattle.tp_headline.specs.Crashing.{ComesBack, Crashes, KeepsWhole, MakesUnanswered, MakesWhole, MayBe, MayEnter, kept_bytes, made_during, stopped_with}
pub use Rattle.tp_headline.specs.Event.{Call, Crash, Event, Fail, Fork, Start, foreign_bytes_of, called_in, wire_entries_of, named_by, needed_by}
pub use Rattle.tp_headline.specs.Follows.{Follows, IsMoment}
pub use Rattle.tp_headline.specs.Happening.{Happens, Next}
pub use Rattle.tp_headline.specs.Headline.{Act, ActStep, ActSteps, HasList, Headline, Lasts, Lists, ReadRecord, add_change, add_list, add_read, no_lists, seen_changes, set_list}
pub use Rattle.tp_headline.specs.Refining.{AreActs, IsActOf, IsOneAct}
pub use Rattle.tp_headline.specs.Refusing.{IsEditAt, IsEditOf, IsOpen, MayHappen, WouldEdit}
pub use Rattle.tp_headline.specs.Reply.{Answered, Peer, EventReply, Wire, reply_to}
pub use Rattle.tp_headline.specs.Running.{GoesOn, GoesOnWith, MeetsEvent}
pub use Rattle.tp_headline.specs.World.{WireEntry, HasEntry, HasPeer, World, beginning, lists_of, with_entry, with_made, with_new_peer, with_peer, with_read, with_used}
pub use Rattle.tp_recovery.proofs.CutLaws.{journal-append, journal-push, recovers_cut}
pub use Rattle.tp_recovery.proofs.HistoryLaws.{history_none, history_prefix, history_push}
pub use Rattle.tp_recovery.proofs.RecoveryLaws.{recovers_once}
pub use Rattle.tp_journal.specs.Journal.{Device, infallible, no_device}
pub use Rattle.tp_recovery.specs.Layout.{IsDocId, journal, record_of, bytes_of_records}
pub use Rattle.tp_recovery.specs.Recovery.{IsHistory, Recovers}
pub use Rattle.tp_list.proofs.Members.{In-append, In-filter, In-last, In-left, In-push, In-right, In-slice_get, In-split, filter-In}
pub use Rattle.tp_list.proofs.Tests.{never, not_true, truth}
pub use Rattle.tp_list.proofs.TraceLaws.{trace_join, trace_keeps, trace_split}
pub use Rattle.tp_list.specs.Members.{AllIn, In, SameMembers}
pub use Rattle.tp_message.proofs.WholeMessage.{message_again}
pub use Rattle.tp_message.specs.Reading.{message_at}
pub use Rattle.tp_opid.proofs.Orders.{id_eq-flip, same_actor-same}
pub use Rattle.tp_opid.specs.Same.{id_eq, same_actor}
pub use Rattle.tp_opid.specs.declared.actor.Actor.{Actor}
pub use Rattle.tp_opid.specs.declared.doc_id.DocId.{DocId}
pub use Rattle.tp_opid.specs.declared.hash.Hash.{Hash}
pub use Rattle.tp_peer.proofs.KeepingLaws.{coming, history_grows, run_advances}
pub use Rattle.tp_peer.proofs.StepLaws.{journal_grows, step_cases, step_keeps}
pub use Rattle.tp_peer.specs.Appending.{AppendsRecord, JournalState, RefusesRecord}
pub use Rattle.tp_peer.specs.Laws.{Appends, AreFew, DeviceFails, Keeps, after_appends, came, changes_in, decoded_changes}
pub use Rattle.tp_peer.specs.Links.{known_of}
pub use Rattle.tp_peer.specs.PeerState.{PeerState, arming, disarming, opened_peer, gained_changes}
pub use Rattle.tp_peer.specs.Taking.{ReceivesAndAppends, journal_of, receiver_of}
pub use Rattle.tp_receive.specs.Outcome.{Done, Outcome, ReceivesWith, Report, Stopped, at_end}
pub use Rattle.tp_receive.specs.Receiving.{IsPrefixOf, EntersAfter}
pub use Rattle.tp_sync.proofs.TakeLaws.{all_carried, message_changes-In}
pub use Rattle.tp_edit.specs.Text.{IsTextOf, chars_of}
