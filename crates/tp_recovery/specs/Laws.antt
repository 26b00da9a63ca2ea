-- What the laws of journals speak of.
use Rattle.std.specs.Prelude.{◌≡◌, ℕ, ◌<◌, ◌≤◌, List, [], ◌∷◌, ◌++◌, length, take}
use Rattle.tp_opid.specs.declared.doc_id.DocId.{DocId}
use Rattle.tp_layout.specs.declared.parts.ChangeParts.{ChangeParts}
use Rattle.tp_recovery.specs.Layout.{bytes_of_records, journal}
use Rattle.tp_recovery.specs.Recovery.{Recovers}

-- The changes `whole` are those of C whose records are whole within the first k bytes of its records.
pub record AreWhole (C : List ChangeParts) (k : ℕ) (whole : List ChangeParts) : Type 0 where
  pub others : List ChangeParts
  pub split : C ≡ whole ++ others
  pub within : length (bytes_of_records whole) ≤ k
  pub torn : (c : ChangeParts) (more : List ChangeParts) → others ≡ c ∷ more → k < length (bytes_of_records (whole ++ c ∷ []))

-- Where the first k bytes of the records of `new` are after the journal of C, the bytes recover to C and those
-- changes of `new` whose records are whole.
pub record RecoversCut (id : DocId) (C new : List ChangeParts) (k : ℕ) : Type 0 where
  pub whole : List ChangeParts
  pub are_whole : AreWhole new k whole
  pub recovers : Recovers (journal id C ++ take k (bytes_of_records new)) id (C ++ whole) (length (journal id (C ++ whole)))
