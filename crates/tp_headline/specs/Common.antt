-- The words of the crates below that several contracts cite, passed on from one place. Declares nothing.
pub use Rattle.std.specs.List.{slice_get}
pub use Rattle.tp_change.specs.ChangeHash.{hash_of}
pub use Rattle.tp_layout.specs.declared.parts.ChangeParts.{ChangeParts}
pub use Rattle.tp_history.specs.Named.{has_all}
pub use Rattle.tp_history.specs.Past.{past}
pub use Rattle.tp_journal.specs.Journal.{no_device}
pub use Rattle.tp_recovery.specs.Layout.{IsDocId, header_of, journal, record_of}
pub use Rattle.tp_recovery.specs.Recovery.{IsHistory, Recovers}
pub use Rattle.tp_list.specs.Members.{AllIn, In, SameMembers}
pub use Rattle.tp_opid.specs.declared.actor.Actor.{Actor}
pub use Rattle.tp_opid.specs.declared.doc_id.DocId.{DocId}
pub use Rattle.tp_opid.specs.declared.hash.Hash.{Hash}
pub use Rattle.tp_peer.specs.Laws.{came, changes_in}
pub use Rattle.tp_peer.specs.PeerState.{PeerState, arming, disarming, opened_peer}
pub use Rattle.tp_peer.specs.declared.error.PeerError.{PeerError}
pub use Rattle.tp_receive.specs.Receiving.{EntersAfter}
pub use Rattle.tp_edit.specs.Text.{IsTextOf, chars_of}
