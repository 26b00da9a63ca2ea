-- The refusals of commands: their numbers, and which refusal of a layer below is which.
use Rattle.std.specs.Prelude.{◌≡◌, ◌⊎◌, ℕ, None}
use Rattle.tp_document.specs.declared.error.DocError.{DocError}
use Rattle.tp_document.specs.declared.error.DocError.TheVariants as doc
use Rattle.tp_journal.specs.declared.opening.OpenError.{OpenError}
use Rattle.tp_journal.specs.declared.opening.OpenError.TheVariants as open_error
use Rattle.tp_history.specs.declared.error.GraphError.{GraphError}
use Rattle.tp_history.specs.declared.error.GraphError.TheVariants as graph
use Rattle.tp_peer.specs.declared.editing_at.EditAtError.{EditAtError}
use Rattle.tp_peer.specs.declared.editing_at.EditAtError.TheVariants as edit_at
use Rattle.tp_peer.specs.declared.error.PeerError.{PeerError}
use Rattle.tp_peer.specs.declared.error.PeerError.TheVariants as peer
use Rattle.tp_journal.specs.declared.error.JournalError.{JournalError}
use Rattle.tp_journal.specs.declared.error.JournalError.TheVariants as journal
use Rattle.tp_store.specs.declared.error.StoreError.{StoreError}
use Rattle.tp_store.specs.declared.error.StoreError.TheVariants as store
use Rattle.tp_commands.specs.declared.error.CommandError.{CommandError}
use Rattle.tp_commands.specs.declared.error.UpdateError.{UpdateError}
use Rattle.tp_commands.specs.declared.error.CommandError.TheVariants.{Io, OutOfMemory, Peer, Doc, Store, Busy, NotText, NotEmpty, NotQuiet, BothHaveText, BadState}

-- the number of a refusal
abbrev pub code_of : CommandError → ℕ
code_of Io = 1
code_of OutOfMemory = 2
code_of (Peer e) = 3
code_of (Doc e) = 4
code_of (Store e) = 5
code_of Busy = 6
code_of (NotText at) = 10
code_of NotEmpty = 11
code_of NotQuiet = 13
code_of BothHaveText = 14
code_of BadState = 15

-- a file or a stream failed, or a growth was refused
abbrev pub IsOfSystem : CommandError → Type 0
IsOfSystem e = (e ≡ Io) ⊎ (e ≡ OutOfMemory)

abbrev pub refusal_of_peer : PeerError → CommandError
refusal_of_peer peer.OutOfMemory = OutOfMemory
refusal_of_peer e = Peer e

-- a change doesn't fit: there is no room, its hash is another's, or its actor made another one
abbrev pub refusal_of_unfit : GraphError → CommandError
refusal_of_unfit graph.Full = Doc doc.Full
refusal_of_unfit graph.Known = Doc doc.HashTaken
refusal_of_unfit graph.OutOfMemory = OutOfMemory
refusal_of_unfit e = Peer peer.ActorInUse

abbrev pub refusal_of_edit_at : EditAtError → CommandError
refusal_of_edit_at (edit_at.Unfit e) = refusal_of_unfit e
refusal_of_edit_at (edit_at.Peer e) = refusal_of_peer e

abbrev pub command_refusal_of_document : DocError → CommandError
command_refusal_of_document doc.OutOfMemory = OutOfMemory
command_refusal_of_document e = Doc e

abbrev pub refusal_of_opening : OpenError → CommandError
refusal_of_opening open_error.Busy = Busy
refusal_of_opening open_error.Io = Io
refusal_of_opening open_error.OutOfMemory = OutOfMemory

abbrev pub command_refusal_of_journal : JournalError → CommandError
command_refusal_of_journal journal.Io = Io
command_refusal_of_journal journal.OutOfMemory = OutOfMemory

abbrev pub command_refusal_of_bytes : StoreError → CommandError
command_refusal_of_bytes store.Io = Io
command_refusal_of_bytes store.OutOfMemory = OutOfMemory
command_refusal_of_bytes e = Store e

-- the refusal, where no change was made before
abbrev pub at_once : CommandError → UpdateError
at_once e = record { error = e; place = None }
