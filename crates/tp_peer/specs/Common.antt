-- The words of the crates below that several contracts cite, passed on from one place. Declares nothing.
pub use Rattle.std.specs.Str.{chars}
pub use Rattle.tp_change.specs.ChangeHash.{hash_of}
pub use Rattle.tp_layout.specs.Limits.{IsChange, AllChanges}
pub use Rattle.tp_layout.specs.declared.parts.ChangeParts.{ChangeParts}
pub use Rattle.tp_document.specs.DocState.{DocState}
pub use Rattle.tp_document.specs.Merging.{absent}
pub use Rattle.tp_document.specs.declared.error.DocError.{DocError}
pub use Rattle.tp_edit.specs.declared.splice.Splice.{Splice}
pub use Rattle.tp_history.specs.Fit.{cause}
pub use Rattle.tp_graph.specs.GraphState.{most_waiting}
pub use Rattle.tp_journal.specs.Journal.{Device, DeviceFailsOnce, GrowsInPart, infallible, with_fuse, without_fuse}
pub use Rattle.tp_recovery.specs.Layout.{IsDocId, journal, record_of, bytes_of_records}
pub use Rattle.tp_recovery.specs.Recovery.{IsHistory, Recovers}
pub use Rattle.tp_journal.specs.declared.error.JournalError.{JournalError}
pub use Rattle.tp_message.specs.Message.{IsMessage, MessageParts}
pub use Rattle.tp_message.specs.Reading.{message_at}
pub use Rattle.tp_message.specs.Spelling.{message_spelling}
pub use Rattle.tp_message.specs.declared.error.SyncError.{SyncError}
pub use Rattle.tp_message.specs.declared.limits.TheConstants.{MAX_CHANGES, MAX_HASHES}
pub use Rattle.tp_opid.specs.declared.actor.Actor.{Actor}
pub use Rattle.tp_opid.specs.declared.doc_id.DocId.{DocId}
pub use Rattle.tp_receive.specs.Outcome.{Done, Outcome, ReceivesWith, Report, Stopped}
pub use Rattle.tp_sync.specs.State.{SyncParts, new_sync_state, after_message}
