-- The bytes of a journal.
use Rattle.std.specs.Prelude.{◌≡◌, ℕ, ◌+◌, ◌<◌, ◌≤◌, ◌⊎◌, List, ◌++◌, length}
use Rattle.std.specs.Int.{w32, to_be_bytes}
use Rattle.std.specs.List.{flat_map}
use Rattle.tp_opid.specs.declared.doc_id.DocId.{DocId}
use Rattle.tp_layout.specs.declared.limits.TheConstants.{MAX_BYTES}
use Rattle.tp_layout.specs.declared.parts.ChangeParts.{ChangeParts}
use Rattle.tp_change.specs.ChangeHash.{hash_of}
use Rattle.tp_list.specs.Bytes.{IsBytes}
use Rattle.tp_layout.specs.Spelling.{spelling}
use Rattle.tp_recovery.specs.declared.layout.TheConstants.{MAGIC}

-- the identifier is 16 bytes
abbrev pub IsDocId : DocId → Type 0
IsDocId id = IsBytes 16 id.0

-- the magic and the identifier of the document: 24 bytes
abbrev pub header_of : DocId → List ℕ
header_of id = MAGIC ++ id.0

-- a change in a journal: how many bytes it has, in 4 bytes; its bytes; and its hash, which is their digest
unfoldable pub record_of : ChangeParts → List ℕ
record_of c = to_be_bytes w32 (length (spelling c)) ++ (spelling c ++ (hash_of c).0)

-- the records of the changes, one after another
abbrev pub bytes_of_records : List ChangeParts → List ℕ
bytes_of_records C = flat_map record_of C

-- the journal of a document with the applied changes C
abbrev pub journal : DocId → List ChangeParts → List ℕ
journal id C = header_of id ++ bytes_of_records C

-- A whole length, and fewer bytes after it than the change and the digest have.
pub record IsCutRecord (bytes : List ℕ) : Type 0 where
  pub size : ℕ
  pub rest : List ℕ
  pub some : 1 ≤ size
  pub few : size ≤ MAX_BYTES
  pub spelled : bytes ≡ to_be_bytes w32 size ++ rest
  pub short : length rest < size + 32

-- What is left of a record that wasn't written to its end: too few bytes for a length, or for what the length promises.
abbrev pub IsShortTail : List ℕ → Type 0
IsShortTail bytes = (length bytes < 4) ⊎ IsCutRecord bytes
