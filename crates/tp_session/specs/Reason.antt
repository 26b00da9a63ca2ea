-- The numbers that refusal frames carry, and which is sent for a refusal of a peer.
use Rattle.std.specs.Prelude.{ℕ}
use Rattle.tp_session.specs.Common.{SyncError, PeerError}
use Rattle.tp_document.specs.declared.error.DocError.{DocError}
use Rattle.tp_document.specs.declared.error.DocError.TheVariants as doc
use Rattle.tp_message.specs.declared.error.SyncError.TheVariants as sync
use Rattle.tp_peer.specs.declared.error.PeerError.TheVariants as peer
use Rattle.tp_session.specs.declared.reason.Reason.{Reason}
use Rattle.tp_session.specs.declared.reason.Reason.TheVariants.{OtherDocument, Version, Malformed, TooMany, Other}

abbrev pub number_of : Reason → ℕ
number_of OtherDocument = 1
number_of Version = 2
number_of Malformed = 3
number_of TooMany = 4
number_of Other = 5

-- the reason that is sent for a refusal of an exchange
abbrev pub reason_of_sync : SyncError → Reason
reason_of_sync sync.BadMessage = Malformed
reason_of_sync sync.BadChange = Malformed
reason_of_sync sync.TooManyHeads = TooMany
reason_of_sync sync.PendingFull = TooMany
reason_of_sync _ = Other

-- the reason that is sent for a refusal of a document
abbrev pub reason_of_doc : DocError → Reason
reason_of_doc doc.TooManyHeads = TooMany
reason_of_doc doc.PendingFull = TooMany
reason_of_doc _ = Other

-- the reason that is sent for a refusal of a peer
abbrev pub reason_of : PeerError → Reason
reason_of (peer.Sync e) = reason_of_sync e
reason_of (peer.Doc e) = reason_of_doc e
reason_of _ = Other
