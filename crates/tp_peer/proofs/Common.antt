-- The names that several proofs cite, passed on from one place. Declares nothing.
pub use Rattle.std.proofs.Common.{Bool, Err, Global, IfErr, IfOk, IsTrue, List, MatchBool, None, Ok, Option, Result, Some, String, [], add-one, ap, append-nil, append_assoc, arith, cond, drop, eqb, eqb-true, false, inl, inr, is_some, length, length-append, nat_le, refl, slice_index_or, subst, suc, sym, take, take_all, true, zero, ℕ, ◌++◌, ◌+◌, ◌<◌, ◌==◌, ◌||◌, ◌↔◌, ◌∙◌, ◌∷◌, ◌≡◌, ◌≢◌, ◌≤◌, ◌⊎◌}
pub use Rattle.tp_layout.specs.Limits.{IsChange, AllChanges}
pub use Rattle.tp_layout.specs.declared.parts.ChangeParts.{ChangeParts}
pub use Rattle.tp_document.specs.Applying.{HasMergeOutcome, kept_by}
pub use Rattle.tp_document.specs.DocState.{DocState}
pub use Rattle.tp_document.specs.Editing.{EditRequest, DoesSplices, asking}
pub use Rattle.tp_document.specs.Merging.{absent}
pub use Rattle.tp_document.specs.declared.error.DocError.{DocError}
pub use Rattle.tp_edit.specs.declared.splice.Splice.{Splice}
pub use Rattle.tp_history.specs.Fit.{cause}
pub use Rattle.tp_graph.specs.GraphState.{most_waiting}
pub use Rattle.tp_history.specs.Named.{HashesApart, has_all}
pub use Rattle.tp_recovery.proofs.CutLaws.{journal-append, recovers_cut}
pub use Rattle.tp_recovery.proofs.HistoryLaws.{history_push}
pub use Rattle.tp_journal.specs.Journal.{CountsFailure, Device, DeviceFailsOnce, RefusesAppend, fuse_left, without_fuse}
pub use Rattle.tp_recovery.specs.Layout.{IsDocId, journal, record_of, bytes_of_records}
pub use Rattle.tp_recovery.specs.Recovery.{IsHistory, Recovers}
pub use Rattle.tp_list.proofs.Tests.{neither, neither_left, neither_right, never, or_left, or_right}
pub use Rattle.tp_list.specs.Members.{AllIn, In}
pub use Rattle.tp_message.specs.Message.{IsMessage, MessageParts}
pub use Rattle.tp_message.specs.Spelling.{message_spelling}
pub use Rattle.tp_opid.specs.declared.actor.Actor.{Actor}
pub use Rattle.tp_opid.specs.declared.doc_id.DocId.{DocId}
pub use Rattle.tp_opid.specs.declared.hash.Hash.{Hash}
pub use Rattle.tp_peer.specs.Appending.{AppendsRecord, JournalState, RefusesRecord, StaysUnsettled, TearsRecord, journal_state, keep_error_of}
pub use Rattle.tp_peer.specs.Laws.{Appends, AreFew, DeviceFails, after_appends, IsComplete, IsPartial, IsTornAt, Keeps, MovesLinks, RecoversTorn, TouchesLink, came, decoded_changes, is_on}
pub use Rattle.tp_peer.specs.Links.{AreLinks, IsLinkAt, LinksState, NumbersOnce, has_link, is_one_too_many, known_of, with_link, without_link}
pub use Rattle.tp_peer.specs.PeerState.{HasJournal, IsPeer, IsTorn, PeerState, arming, peer_state}
pub use Rattle.tp_peer.specs.PeerError.{is_failed, refusal_of_document, refusal_of_sync, stops}
pub use Rattle.tp_peer.specs.PeerStep.{Call, Decodes, Edit, Forget, Forgotten, Generate, Generated, Heads, ReceivesMessage, Made, Merge, Merged, PeerStep, Read, ReadAt, ReadHeads, Receive, Received, Refused, RefusesDecoding, RefusesEdit, RefusesGenerate, RefusesMerge, RefusesReceive, RefusesText, Reply, Runs, Speaks, Text, peer_with_change, knowing, needs_stopped, reply_of_result}
pub use Rattle.tp_peer.specs.Taking.{StopsAppending, StopsUnsettled, ReceivesAndAppends, journal_of, receiver_of, report_of, stopped_by}
pub use Rattle.tp_peer.specs.declared.error.PeerError.{PeerError}
pub use Rattle.tp_peer.specs.declared.error.PeerError.TheVariants.{ActorInUse, Doc, JournalFailed, OutOfMemory, Sync, TooManyLinks}
pub use Rattle.tp_receive.proofs.RunLaws.{Grew-run, nothing_lost, progress}
pub use Rattle.tp_receive.proofs.TurnLaws.{SomeTurns-keeps, SomeTurns-one, SomeTurns-then, TakesOut, Turn-cases}
pub use Rattle.tp_receive.specs.Delivery.{delivery, is_full, slots, takes_slot, with_slots}
pub use Rattle.tp_receive.specs.Intake.{Intake, NextChange, Receiver, SomeTurns, Turn, begin, enter}
pub use Rattle.tp_receive.specs.Outcome.{Done, HasOutcome, Outcome, ReceivesWith, Report, Stopped, at_end}
pub use Rattle.tp_receive.specs.Receiving.{Between, EntersAfter, Grows}
pub use Rattle.tp_receive.specs.Replies.{KeepsAll, LosesNone}
pub use Rattle.tp_sync.specs.State.{SyncParts, new_sync_state, after_message}
