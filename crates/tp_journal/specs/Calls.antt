-- What is asked of the file beneath a journal, and what it has where it does what it is asked.
use Rattle.std.specs.Prelude.{◌≡◌, ◌⊎◌, ℕ, List, [], ◌∷◌, ◌++◌, take, Bool, true, false, not, ◌&&◌, if◌then◌else◌, Option, Some, None}
use Rattle.tp_journal.specs.declared.calls.FileCall.{FileCall}
use Rattle.tp_journal.specs.declared.calls.FileCall.TheVariants.{Write, Cut, Sync}

-- what was asked of a file: the bytes that were read of it as it was opened, and its calls since then, the last one first
pub record FileCalls : Type 0 where
  pub opened : List ℕ
  pub calls : List FileCall

-- where there is no file
abbrev pub nothing_asked : FileCalls
nothing_asked = record { opened = []; calls = [] }

-- what the calls make of the bytes: what a write took is put after them, and a cut leaves the first ones
abbrev pub content_after : List ℕ → List FileCall → List ℕ
content_after opened [] = opened
content_after opened (Write bytes taken ∷ before) = content_after opened before ++ take taken bytes.bytes
content_after opened (Cut len true ∷ before) = take len (content_after opened before)
content_after opened (Cut len false ∷ before) = content_after opened before
content_after opened (Sync done ∷ before) = content_after opened before

-- whether a sync failed
abbrev pub fails_sync : List FileCall → Bool
fails_sync [] = false
fails_sync (Write bytes taken ∷ before) = fails_sync before
fails_sync (Cut len done ∷ before) = fails_sync before
fails_sync (Sync done ∷ before) = if done then fails_sync before else true

-- What the file had when it was last brought to the disk, if it was. After a sync that failed none counts, since the system may
-- have dropped what that one was to bring.
abbrev pub synced_after : List ℕ → List FileCall → Option (List ℕ)
synced_after opened [] = None
synced_after opened (Write bytes taken ∷ before) = synced_after opened before
synced_after opened (Cut len done ∷ before) = synced_after opened before
synced_after opened (Sync done ∷ before) = if done && not (fails_sync before) then Some (content_after opened before) else synced_after opened before

-- what the file has
abbrev pub file_content : FileCalls → List ℕ
file_content a = content_after a.opened a.calls

-- What was brought to the disk is all that the file has.
abbrev pub IsAllSynced : FileCalls → Type 0
IsAllSynced a = synced_after a.opened a.calls ≡ Some (file_content a)

-- one write of these bytes
abbrev pub IsWrite : List ℕ → FileCall → Type 0
IsWrite bytes call = (taken : ℕ) × (call ≡ Write (record { bytes = bytes }) taken)

-- one cut to this length
abbrev pub IsCut : ℕ → FileCall → Type 0
IsCut len call = (done : Bool) × (call ≡ Cut len done)

-- one sync
abbrev pub IsSync : FileCall → Type 0
IsSync call = (done : Bool) × (call ≡ Sync done)

-- One call was made of the file, one of these, or none.
pub record AsksOnce (P : FileCall → Type 0) (before after : FileCalls) : Type 0 where
  pub opened : after.opened ≡ before.opened
  pub calls : (after.calls ≡ before.calls) ⊎ ((call : FileCall) × P call × (after.calls ≡ call ∷ before.calls))
