-- The numbers of the refusals, and what stands for the refusals of a document, of an exchange and of a journal.
use Rattle.std.specs.Prelude.{ℕ, Bool, true, false, Result, Ok, Err}
use Rattle.tp_peer.specs.Common.{DocError, JournalError, SyncError}
use Rattle.tp_document.specs.declared.error.DocError.TheVariants as doc
use Rattle.tp_journal.specs.declared.error.JournalError.TheVariants as journal
use Rattle.tp_store.specs.declared.error.StoreError.{StoreError}
use Rattle.tp_store.specs.declared.error.StoreError.TheVariants as store
use Rattle.tp_message.specs.declared.error.SyncError.TheVariants as sync
use Rattle.tp_peer.specs.declared.error.PeerError.{PeerError}
use Rattle.tp_peer.specs.declared.error.PeerError.TheVariants.{ActorInUse, JournalFailed, Stopped, TooManyLinks, JournalNotEmpty, Doc, Sync, Store, OutOfMemory}

abbrev pub code_of : PeerError → ℕ
code_of ActorInUse = 1
code_of JournalFailed = 2
code_of Stopped = 3
code_of TooManyLinks = 4
code_of JournalNotEmpty = 5
code_of (Doc e) = 6
code_of (Sync e) = 7
code_of (Store e) = 8
code_of OutOfMemory = 9

-- the refusal for one of the document, whose keeper is the journal
abbrev pub refusal_of_document : DocError → PeerError
refusal_of_document doc.OutOfRange = Doc doc.OutOfRange
refusal_of_document doc.CounterLimit = Doc doc.CounterLimit
refusal_of_document doc.TooManyOps = Doc doc.TooManyOps
refusal_of_document doc.TooManyHeads = Doc doc.TooManyHeads
refusal_of_document doc.UnknownHead = Doc doc.UnknownHead
refusal_of_document doc.UnknownElement = Doc doc.UnknownElement
refusal_of_document doc.PendingFull = Doc doc.PendingFull
refusal_of_document doc.HashTaken = Doc doc.HashTaken
refusal_of_document doc.OutOfMemory = OutOfMemory
refusal_of_document doc.OtherDocument = Doc doc.OtherDocument
refusal_of_document doc.TooLong = Doc doc.TooLong
refusal_of_document doc.Full = Doc doc.Full
refusal_of_document doc.NotKept = JournalFailed

-- the refusal for one of an exchange, whose keeper is the journal
abbrev pub refusal_of_sync : SyncError → PeerError
refusal_of_sync sync.BadMessage = Sync sync.BadMessage
refusal_of_sync sync.BadChange = Sync sync.BadChange
refusal_of_sync sync.TooManyHeads = Sync sync.TooManyHeads
refusal_of_sync sync.PendingFull = Sync sync.PendingFull
refusal_of_sync sync.OutOfMemory = OutOfMemory
refusal_of_sync sync.OtherDocument = Sync sync.OtherDocument
refusal_of_sync sync.NotKept = JournalFailed

-- the refusal for one of the journal
abbrev pub refusal_of_journal : JournalError → PeerError
refusal_of_journal journal.Io = JournalFailed
refusal_of_journal journal.OutOfMemory = OutOfMemory

-- the refusal for one of the bytes of a journal, which don't recover
abbrev pub refusal_of_bytes : StoreError → PeerError
refusal_of_bytes store.BadMagic = Store store.BadMagic
refusal_of_bytes store.Truncated = Store store.Truncated
refusal_of_bytes store.BadDigest = Store store.BadDigest
refusal_of_bytes (store.Damaged at) = Store (store.Damaged at)
refusal_of_bytes (store.Refused e) = Store (store.Refused e)
refusal_of_bytes store.Io = JournalFailed
refusal_of_bytes store.OutOfMemory = OutOfMemory
refusal_of_bytes store.NoHeader = Store store.NoHeader

-- the refusal says that the device of the journal failed
abbrev pub is_failed : PeerError → Bool
is_failed JournalFailed = true
is_failed _ = false

-- the outcome of a call stops the peer
abbrev pub stops : {T : Type 0} → Result T PeerError → Bool
stops (Ok x) = false
stops (Err e) = is_failed e
