-- The names of refusals: of what a layer below refused, the innermost one's.
use Rattle.std.specs.Prelude.{ℕ, List, codes}
use Rattle.tp_document.specs.declared.error.DocError.{DocError}
use Rattle.tp_document.specs.declared.error.DocError.TheVariants as doc
use Rattle.tp_history.specs.declared.error.GraphError.{GraphError}
use Rattle.tp_history.specs.declared.error.GraphError.TheVariants as graph
use Rattle.tp_headline.specs.declared.error.WorldError.{WorldError}
use Rattle.tp_headline.specs.declared.error.WorldError.TheVariants as world
use Rattle.tp_peer.specs.declared.error.PeerError.{PeerError}
use Rattle.tp_peer.specs.declared.error.PeerError.TheVariants as peer
use Rattle.tp_store.specs.declared.error.StoreError.{StoreError}
use Rattle.tp_store.specs.declared.error.StoreError.TheVariants as store
use Rattle.tp_message.specs.declared.error.SyncError.{SyncError}
use Rattle.tp_message.specs.declared.error.SyncError.TheVariants as sync

abbrev pub name_of_graph : GraphError → List ℕ
name_of_graph graph.Known = codes "Known"
name_of_graph graph.MissingDeps = codes "MissingDeps"
name_of_graph graph.BadSeq = codes "BadSeq"
name_of_graph graph.BadStart = codes "BadStart"
name_of_graph graph.BadReference = codes "BadReference"
name_of_graph graph.SeqClash = codes "SeqClash"
name_of_graph graph.UnknownHead = codes "UnknownHead"
name_of_graph graph.Full = codes "Full"
name_of_graph graph.OutOfMemory = codes "OutOfMemory"

abbrev pub name_of_document : DocError → List ℕ
name_of_document doc.OutOfRange = codes "OutOfRange"
name_of_document doc.CounterLimit = codes "CounterLimit"
name_of_document doc.TooManyOps = codes "TooManyOps"
name_of_document doc.TooManyHeads = codes "TooManyHeads"
name_of_document doc.UnknownHead = codes "UnknownHead"
name_of_document doc.UnknownElement = codes "UnknownElement"
name_of_document doc.PendingFull = codes "PendingFull"
name_of_document doc.HashTaken = codes "HashTaken"
name_of_document doc.OutOfMemory = codes "OutOfMemory"
name_of_document doc.OtherDocument = codes "OtherDocument"
name_of_document doc.TooLong = codes "TooLong"
name_of_document doc.Full = codes "Full"
name_of_document doc.NotKept = codes "NotKept"

abbrev pub name_of_bytes : StoreError → List ℕ
name_of_bytes store.BadMagic = codes "BadMagic"
name_of_bytes store.Truncated = codes "Truncated"
name_of_bytes store.BadDigest = codes "BadDigest"
name_of_bytes (store.Damaged at) = codes "Damaged"
name_of_bytes (store.Refused e) = name_of_graph e
name_of_bytes store.Io = codes "Io"
name_of_bytes store.OutOfMemory = codes "OutOfMemory"
name_of_bytes store.NoHeader = codes "NoHeader"

abbrev pub name_of_sync : SyncError → List ℕ
name_of_sync sync.BadMessage = codes "BadMessage"
name_of_sync sync.BadChange = codes "BadChange"
name_of_sync sync.TooManyHeads = codes "TooManyHeads"
name_of_sync sync.PendingFull = codes "PendingFull"
name_of_sync sync.OutOfMemory = codes "OutOfMemory"
name_of_sync sync.OtherDocument = codes "OtherDocument"
name_of_sync sync.NotKept = codes "NotKept"

abbrev pub name_of_peer : PeerError → List ℕ
name_of_peer peer.ActorInUse = codes "ActorInUse"
name_of_peer peer.JournalFailed = codes "JournalFailed"
name_of_peer peer.Stopped = codes "Stopped"
name_of_peer peer.TooManyLinks = codes "TooManyLinks"
name_of_peer peer.JournalNotEmpty = codes "JournalNotEmpty"
name_of_peer (peer.Doc e) = name_of_document e
name_of_peer (peer.Sync e) = name_of_sync e
name_of_peer (peer.Store e) = name_of_bytes e
name_of_peer peer.OutOfMemory = codes "OutOfMemory"

abbrev pub name_of_world : WorldError → List ℕ
name_of_world world.NoPeer = codes "NoPeer"
name_of_world world.ActorUsed = codes "ActorUsed"
name_of_world world.ForeignChange = codes "ForeignChange"
name_of_world world.HashClash = codes "HashClash"
name_of_world world.Stopped = codes "Stopped"
name_of_world world.NoEntry = codes "NoEntry"
name_of_world world.OutOfMemory = codes "OutOfMemory"
