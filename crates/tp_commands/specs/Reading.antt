-- What is read of a journal, as it is printed.
use Rattle.std.specs.Prelude.{◌≡◌, ℕ, Bool, true, false, List, [], ◌∷◌, Some, codes}
use Rattle.std.specs.Fmt.{decimal}
use Rattle.std.specs.List.{flat_map}
use Rattle.std.specs.Str.{chars}
use Rattle.hex.specs.Hex.{encode_lower}
use Rattle.tp_opid.specs.declared.doc_id.DocId.{DocId}
use Rattle.tp_opid.specs.declared.hash.Hash.{Hash}
use Rattle.tp_opid.specs.declared.op_id.OpId.{OpId}
use Rattle.tp_layout.specs.declared.parts.ChangeParts.{ChangeParts}
use Rattle.tp_snapshot.specs.Showing.{HasElementAt, HasPosition}
use Rattle.tp_history.specs.Heads.{heads}
use Rattle.tp_history.specs.Past.{past}
use Rattle.tp_recovery.specs.Recovery.{Recovers}
use Rattle.tp_store.specs.Saved.{IsSaved}
use Rattle.tp_edit.specs.Text.{IsTextOf}
use Rattle.tp_list.specs.Bytes.{line}

-- the bytes are a journal of the changes, and then a short tail
abbrev pub HasChanges : List ℕ → List ChangeParts → Type 0
HasChanges journal C = (id : DocId) × (keep : ℕ) × Recovers journal id C keep

-- the changes that the heads reach, or all where none are given
abbrev pub changes_at_heads : List ChangeParts → List Hash → List ChangeParts
changes_at_heads C [] = C
changes_at_heads C (h ∷ hs) = past C (h ∷ hs)

-- What is printed is the line of the text of a journal's changes, at the heads where any are given.
pub record IsTextLine (journal : List ℕ) (hs : List Hash) (printed : List ℕ) : Type 0 where
  pub changes : List ChangeParts
  pub text : List ℕ
  pub recovers : HasChanges journal changes
  pub is_text : IsTextOf (changes_at_heads changes hs) (chars text)
  pub spelled : printed ≡ line text

-- The bytes are the text of a journal's changes, at the heads where any are given.
pub record IsTextAt (journal : List ℕ) (hs : List Hash) (bytes : List ℕ) : Type 0 where
  pub changes : List ChangeParts
  pub recovers : HasChanges journal changes
  pub is_text : IsTextOf (changes_at_heads changes hs) (chars bytes)

-- What is printed is the text as it is, or its line.
abbrev pub IsTextPrinted : Bool → List ℕ → List Hash → List ℕ → Type 0
IsTextPrinted true journal hs printed = IsTextAt journal hs printed
IsTextPrinted false journal hs printed = IsTextLine journal hs printed

-- the line of a hash
abbrev pub hash_line : Hash → List ℕ
hash_line h = line (encode_lower h.0)

-- the lines of the changes that were made, or of `nothing` where none were
abbrev pub lines_of_made : List Hash → List ℕ
lines_of_made [] = line (codes "nothing")
lines_of_made (h ∷ hs) = flat_map hash_line (h ∷ hs)

-- What is printed are the lines of the heads of a journal's changes.
pub record AreHeadLines (journal printed : List ℕ) : Type 0 where
  pub changes : List ChangeParts
  pub recovers : HasChanges journal changes
  pub spelled : printed ≡ flat_map hash_line (heads changes)

-- What is printed is the line of the position, in the text of all of a journal's changes, of the element that is at
-- the position `at` of the text at the heads.
pub record IsCursorLine (journal : List ℕ) (at : ℕ) (hs : List Hash) (printed : List ℕ) : Type 0 where
  pub changes : List ChangeParts
  pub element : OpId
  pub position : ℕ
  pub recovers : HasChanges journal changes
  pub stood : HasElementAt (past changes hs) at (Some element)
  pub present : HasPosition changes element (Some position)
  pub spelled : printed ≡ line (decimal position)

-- The bytes are the saved file of a journal's document.
pub record Saves (journal bytes : List ℕ) : Type 0 where
  pub id : DocId
  pub changes : List ChangeParts
  pub keep : ℕ
  pub recovers : Recovers journal id changes keep
  pub saved : IsSaved bytes id changes
