-- The bytes of a saved file.
use Rattle.std.specs.Prelude.{◌≡◌, ℕ, ◌≤◌, List, ◌++◌, length}
use Rattle.std.specs.Int.{w32, to_be_bytes}
use Rattle.std.specs.List.{flat_map}
use Rattle.sha2.specs.Sha256.{sha256}
use Rattle.tp_opid.specs.declared.doc_id.DocId.{DocId}
use Rattle.tp_layout.specs.declared.limits.TheConstants.{MAX_BYTES}
use Rattle.tp_layout.specs.declared.parts.ChangeParts.{ChangeParts}
use Rattle.tp_list.specs.Bytes.{IsBytes}
use Rattle.tp_layout.specs.Spelling.{spelling, framed_change}
use Rattle.tp_history.specs.Fit.{most_changes}
use Rattle.tp_history.specs.Sound.{Sound}
use Rattle.tp_layout.specs.Limits.{AllChanges}
use Rattle.tp_store.specs.declared.saved.TheConstants.{MAGIC}

-- bytes after their length of 4 bytes
abbrev pub piece : List ℕ → List ℕ
piece bytes = to_be_bytes w32 (length bytes) ++ bytes

-- the magic, the identifier of the document, and how many changes follow
abbrev pub header : DocId → ℕ → List ℕ
header id count = MAGIC ++ (id.0 ++ to_be_bytes w32 count)

-- all that the digest is taken of: the header, and the changes one after another
abbrev pub body : DocId → List ChangeParts → List ℕ
body id C = header id (length C) ++ flat_map framed_change C

-- the saved file of a document with this identifier and these applied changes
unfoldable pub saved_file : DocId → List ChangeParts → List ℕ
saved_file id C = body id C ++ sha256 (body id C)

-- From 1 to 4,194,304 bytes, as those of a change.
pub record IsPiece (bytes : List ℕ) : Type 0 where
  pub from : 1 ≤ length bytes
  pub to : length bytes ≤ MAX_BYTES

-- What is laid out as a saved file and has the right digest, whatever is where the changes are.
unfoldable pub laid_out : DocId → List (List ℕ) → List ℕ
laid_out id pieces =
    let prefix : List ℕ = header id (length pieces) ++ flat_map piece pieces in
    prefix ++ sha256 prefix

-- What has a saved file: 16 bytes, and a sound list of changes within their limits.
pub record CanBeSaved (id : DocId) (C : List ChangeParts) : Type 0 where
  pub identifier : IsBytes 16 id.0
  pub sound : Sound C
  pub limits : AllChanges C
  pub few : length C ≤ most_changes

-- The bytes are the saved file of the identifier and the changes.
pub record IsSaved (bytes : List ℕ) (id : DocId) (C : List ChangeParts) : Type 0 where
  pub spelled : bytes ≡ saved_file id C
  pub can : CanBeSaved id C
