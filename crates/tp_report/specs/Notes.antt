-- What is said below the line of a refusal, where that is asked for.
use Rattle.std.specs.Prelude.{◌≡◌, ◌⊎◌, ◌++◌, ℕ, Bool, true, false, List, [], Some, codes, if◌then◌else◌}
use Rattle.std.specs.Fmt.{decimal}
use Rattle.tp_commands.specs.declared.error.CommandError.TheVariants.{Io, OutOfMemory, Peer, Store, NotText, NotQuiet, BothHaveText, BadState}
use Rattle.tp_document.specs.declared.error.DocError.TheVariants.{OtherDocument}
use Rattle.tp_peer.specs.declared.error.PeerError.TheVariants.{JournalNotEmpty}
use Rattle.tp_peer.specs.declared.error.PeerError.TheVariants as peer
use Rattle.tp_store.specs.declared.error.StoreError.TheVariants.{Damaged}
use Rattle.tp_report.specs.declared.error.JobError.{JobError}
use Rattle.tp_report.specs.declared.error.JobError.TheVariants.{Command, HalfWay, Show as ShowRefusal, Line}
use Rattle.tp_command_line.specs.declared.job.Beside.{Beside}
use Rattle.tp_command_line.specs.declared.job.Beside.TheVariants.{Loaded, Made, Read, Rescued, Shared, Shown, Text}
use Rattle.tp_command_line.specs.declared.job.Subject.{Subject}
use Rattle.tp_list.specs.Bytes.{line}

-- whether a refusal is of a text file, and not of the journal that it is beside
abbrev pub is_of_text : JobError → Bool
is_of_text (Command (NotText at)) = true
is_of_text (Command NotQuiet) = true
is_of_text (Command BothHaveText) = true
is_of_text (Command BadState) = true
is_of_text e = false

-- The file that a refusal is about: the one beside the first, where its bytes don't recover or are no text, where it is of
-- another document, or where it was to be made and something is there already; and else the first.
abbrev pub fault_path : Beside → List ℕ → JobError → List ℕ
fault_path (Read other) file (Command (Peer (peer.Store e))) = other.now
fault_path (Read other) file (Command (Peer (peer.Doc OtherDocument))) = other.now
fault_path (Text source) file e = if is_of_text e then source.now else file
fault_path (Shared source addr) file e = if is_of_text e then source.now else file
fault_path (Shown source hosting) file e = if is_of_text e then source.now else file
fault_path (Made out) file (Command (Peer JournalNotEmpty)) = out.now
fault_path (Loaded journal) file (Command (Peer JournalNotEmpty)) = journal.now
fault_path (Rescued (Some out) other) file (Command (Peer JournalNotEmpty)) = out.now
fault_path beside file e = file

abbrev pub path_at_fault : Subject → JobError → List ℕ
path_at_fault s e = fault_path s.beside s.file.now e

-- what is known of the place in the file, from its error
abbrev pub fault_place : JobError → List ℕ
fault_place (Command (Store (Damaged at))) = codes "damaged at byte " ++ decimal at ++ codes "; "
fault_place (Command (Peer (peer.Store (Damaged at)))) = codes "damaged at byte " ++ decimal at ++ codes "; "
fault_place (Command (NotText at)) = codes "it isn't UTF-8 from byte " ++ decimal at ++ codes " on, "
fault_place (Line number) = codes "line " ++ decimal number ++ codes " "
fault_place e = []

-- the refusal is about one file, which its error tells
abbrev pub names_file : JobError → Bool
names_file (Command Io) = false
names_file (Command OutOfMemory) = false
names_file (Command e) = true
names_file (ShowRefusal r) = true
names_file (HalfWay Io place) = false
names_file (HalfWay OutOfMemory place) = false
names_file (HalfWay e place) = true
names_file (Line number) = true
names_file e = false

-- The line says which file the refusal is about, and where in it, with a sentence; or it is a sentence alone.
abbrev pub IsNoteOf : Bool → Subject → JobError → List ℕ → Type 0
IsNoteOf true s e note = (sentence : List ℕ) × (note ≡ line (codes "  " ++ path_at_fault s e ++ codes ": " ++ fault_place e ++ sentence))
IsNoteOf false s e note = (sentence : List ℕ) × (note ≡ line (codes "  " ++ sentence))

-- what is said where memory was refused for more
abbrev pub no_memory_note : List ℕ
no_memory_note = line (codes "  there is no memory to explain this")

-- What is said below the refusal of the job: nothing where it isn't asked for.
abbrev pub IsNote : Bool → Subject → JobError → List ℕ → Type 0
IsNote false s e note = note ≡ []
IsNote true s e note = IsNoteOf (names_file e) s e note ⊎ (note ≡ no_memory_note)
