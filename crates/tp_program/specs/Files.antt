-- What commands did to files, by what was seen of the disk.
use Rattle.std.specs.Prelude.{◌≡◌, ◌⊎◌, ℕ, List, Option, Some, None, codes}
use Rattle.tp_opid.specs.declared.doc_id.DocId.{DocId}
use Rattle.tp_layout.specs.declared.parts.ChangeParts.{ChangeParts}
use Rattle.tp_recovery.specs.Layout.{journal}
use Rattle.tp_peer.specs.Opening.{IsUnused}
use Rattle.tp_commands.specs.Reading.{Saves}
use Rattle.tp_store.specs.Saved.{IsSaved}
use Rattle.std.specs.Borrow.{Bor}
use Rattle.tp_command_line.specs.declared.job.Inserted.{Inserted}
use Rattle.tp_command_line.specs.declared.job.Inserted.TheVariants.{Given, InFile}
use Rattle.tp_disk.specs.DiskView.{DiskView, OfFile, WasRead, WasLeft}
use Rattle.tp_store.specs.declared.error.StoreError.{StoreError}
use Rattle.tp_program.specs.Rescuing.{AreTexts, IsRescued, OfOthers}

-- The bytes were read of the file, or of the standard input, which the path `-` names.
abbrev pub IsGiven : (DiskView → Type 0) → List ℕ → List ℕ → Type 0
IsGiven saw file bytes = saw (WasRead file bytes) ⊎ (file ≡ codes "-")

-- Of bytes that were so given P holds.
abbrev pub OfGiven : (DiskView → Type 0) → List ℕ → (List ℕ → Type 0) → Type 0
OfGiven saw file P = (bytes : List ℕ) × IsGiven saw file bytes × P bytes

-- P holds of the text that an edit inserts, which was given itself or in a file.
abbrev pub OfInserted : (DiskView → Type 0) → Inserted → (Bor (List ℕ) → Type 0) → Type 0
OfInserted saw (Given text) P = P text
OfInserted saw (InFile path) P = (text : Bor (List ℕ)) × IsGiven saw path.now text.now × P text

-- The file was left with the saved file of the journal's document.
abbrev pub SavesTo : (DiskView → Type 0) → List ℕ → List ℕ → Type 0
SavesTo saw out journal = (bytes : List ℕ) × Saves journal bytes × saw (WasLeft out bytes)

-- The file was left with the journal of all that can be had of the bytes and of other files, and this is printed of it.
abbrev pub RescuesTo : (DiskView → Type 0) → List ℕ → List ℕ → List ChangeParts → List DocId → Option StoreError → List ℕ → Type 0
RescuesTo saw out bytes more ids lacking printed = (journal : List ℕ) × IsRescued bytes more ids journal lacking printed × saw (WasLeft out journal)

-- What is printed of a damaged journal, and of the files at the paths: where a journal is made, what could be had, and why it
-- lacks one of the damaged one's whole changes, if it lacks any; and else what the whole records inserted.
abbrev pub IsRecoveryOutput : (DiskView → Type 0) → List ℕ → Option (Bor (List ℕ)) → List (List ℕ) → Option StoreError → List ℕ → Type 0
IsRecoveryOutput saw file (Some out) paths lacking printed =
    OfFile saw file (λ bytes. OfOthers saw paths (λ more ids. RescuesTo saw out.now bytes more ids lacking printed))
IsRecoveryOutput saw file None paths lacking printed = OfFile saw file (λ bytes. OfOthers saw paths (λ more ids. AreTexts bytes more printed))

-- An unused journal was begun with the changes.
pub record BeginsJournal (id : DocId) (C : List ChangeParts) (before after : List ℕ) : Type 0 where
  pub unused : IsUnused before
  pub begun : after ≡ journal id C

-- An unused journal was begun with the document of a saved file.
pub record IsLoaded (bytes before after : List ℕ) : Type 0 where
  pub id : DocId
  pub changes : List ChangeParts
  pub saved : IsSaved bytes id changes
  pub begins : BeginsJournal id changes before after
