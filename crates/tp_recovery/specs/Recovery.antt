-- What bytes recover to.
use Rattle.std.specs.Prelude.{◌≡◌, ℕ, zero, suc, ◌+◌, ◌≤◌, List, [], ◌∷◌, ◌++◌, length, take, drop, Bool, Option, Some, None, Result, Ok, Err, nat_eq, nat_lt, nat_le, ◌&&◌, ◌||◌, if◌then◌else◌}
use Rattle.std.specs.Int.{w32, from_be_bytes}
use Rattle.std.specs.List.{starts_with}
use Rattle.tp_opid.specs.declared.doc_id.DocId.{DocId}
use Rattle.tp_layout.specs.declared.limits.TheConstants.{MAX_BYTES}
use Rattle.tp_layout.specs.declared.error.ChangeError.{ChangeError}
use Rattle.tp_layout.specs.declared.parts.ChangeParts.{ChangeParts}
use Rattle.tp_layout.specs.Reading.{change_at}
use Rattle.tp_layout.specs.Limits.{AllChanges}
use Rattle.tp_history.specs.declared.error.GraphError.{GraphError}
use Rattle.tp_history.specs.Fit.{cause, most_changes}
use Rattle.tp_history.specs.Sound.{Sound}
use Rattle.tp_recovery.specs.declared.layout.TheConstants.{MAGIC}
use Rattle.tp_recovery.specs.Layout.{IsDocId, record_of, journal, IsShortTail}

-- Changes as a document applies them: each fits after those before it, and all is within the limits.
pub record IsHistory (C : List ChangeParts) : Type 0 where
  pub sound : Sound C
  pub limits : AllChanges C
  pub few : length C ≤ most_changes

-- The bytes are the journal of the document and the changes C, and then a short tail. `keep` is how many bytes the
-- journal has.
pub record Recovers (bytes : List ℕ) (id : DocId) (C : List ChangeParts) (keep : ℕ) : Type 0 where
  pub tail : List ℕ
  pub is_id : IsDocId id
  pub history : IsHistory C
  pub short : IsShortTail tail
  pub spelled : bytes ≡ journal id C ++ tail
  pub keep_is : keep ≡ length (journal id C)

-- The bytes are as many as `keep`, and then the tail.
pub record HasTail (bytes : List ℕ) (keep : ℕ) (tail : List ℕ) : Type 0 where
  pub kept : List ℕ
  pub split : bytes ≡ kept ++ tail
  pub size : keep ≡ length kept

-- ---- the same as a function

abbrev pub is_cut_record : ℕ → List ℕ → Bool
is_cut_record n rest = nat_le 1 n && nat_le n MAX_BYTES && nat_lt (length rest) (n + 32)

-- the bytes are a short tail
abbrev pub is_short_tail : List ℕ → Bool
is_short_tail bytes = nat_lt (length bytes) 4 || is_cut_record (from_be_bytes w32 (take 4 bytes)) (drop 4 bytes)

-- the change and the bytes after its record, if it is the change's record that is at the start
abbrev pub with_record : List ℕ → Result ChangeParts ChangeError → Option (ChangeParts × List ℕ)
with_record bytes (Ok c) = if starts_with nat_eq bytes (record_of c) then Some (c, drop (length (record_of c)) bytes) else None
with_record bytes (Err e) = None

-- the change whose record is at the start, and the bytes after it
unfoldable pub journal_record_at : List ℕ → Option (ChangeParts × List ℕ)
journal_record_at bytes = with_record bytes (change_at (take (from_be_bytes w32 (take 4 bytes)) (drop 4 bytes)))

-- `next` after the changes C and one more, where nothing keeps it from entering
abbrev pub entered_fitting : (List ChangeParts → List ℕ → Option (List ChangeParts)) → List ChangeParts → ChangeParts → List ℕ → Option GraphError → Option (List ChangeParts)
entered_fitting next C c rest None = next (C ++ c ∷ []) rest
entered_fitting next C c rest (Some e) = None

abbrev pub entered_next : (List ChangeParts → List ℕ → Option (List ChangeParts)) → List ChangeParts → Option (ChangeParts × List ℕ) → Option (List ChangeParts)
entered_next next C (Some x) = entered_fitting next C x.0 x.1 (cause C x.0)
entered_next next C None = None

-- the changes C and those of the records up to a short tail, fewer than n
unfoldable pub entered_from : ℕ → List ChangeParts → List ℕ → Option (List ChangeParts)
entered_from zero C bytes = None
entered_from (suc n) C bytes = if is_short_tail bytes then Some C else entered_next (λ D rest. entered_from n D rest) C (journal_record_at bytes)

abbrev pub with_keep : DocId → Option (List ChangeParts) → Option (DocId × List ChangeParts × ℕ)
with_keep id (Some C) = Some (id, C, length (journal id C))
with_keep id None = None

-- the identifier after the magic
abbrev pub id_after_magic : List ℕ → DocId
id_after_magic bytes = record { 0 = take 16 (drop 8 bytes) }

-- What the bytes recover to: the identifier, the changes, and how many bytes their journal has. None where they don't
-- recover.
unfoldable pub recovery_of : List ℕ → Option (DocId × List ChangeParts × ℕ)
recovery_of bytes =
    if starts_with nat_eq bytes MAGIC && nat_le 24 (length bytes)
    then with_keep (id_after_magic bytes) (entered_from (suc (length bytes)) [] (drop 24 bytes))
    else None
