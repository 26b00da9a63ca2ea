-- What receiving does to a document.
use Rattle.std.specs.Prelude.{◌≡◌, ◌≢◌, IsSomeAnd, Result, Ok, Err}
use Rattle.tp_document.specs.Common.{DocId}
use Rattle.tp_receive.specs.declared.intake.Applied.{Applied}
use Rattle.tp_receive.specs.declared.keeper.NoKeeper.{NoKeeper}
use Rattle.tp_receive.specs.Intake.{Receiver, receiver}
use Rattle.tp_receive.specs.Outcome.{Done, Outcome, Stopped, unkept_receiver, report_of}
use Rattle.tp_document.specs.declared.error.DocError.{DocError}
use Rattle.tp_document.specs.declared.error.DocError.TheVariants.{OtherDocument}
use Rattle.tp_document.specs.DocError.{receiving}
use Rattle.tp_document.specs.DocState.{DocState}

-- the document as what receives, with its keeper
abbrev pub kept_by : {S : Type 0} → S → DocState → Receiver S
kept_by k d = receiver k d.applied d.waiting

-- the document as what receives, where nobody keeps its changes
abbrev pub kept_by_none : DocState → Receiver NoKeeper
kept_by_none d = unkept_receiver d.applied d.waiting

-- What a merge of a document with the identifier b into one with the identifier a answered, which left of s t:
-- OtherDocument exactly where the two differ, and then nothing was done; else an outcome that is as P says.
abbrev pub HasMergeOutcome : {S : Type 0} → DocId → DocId → Receiver S → Receiver S → Result Applied DocError → (Outcome → Type 0) → Type 0
HasMergeOutcome a b s t (Ok r) P = (a ≡ b) × P (Done (report_of r))
HasMergeOutcome a b s t (Err OtherDocument) P = (a ≢ b) × (t ≡ s)
HasMergeOutcome a b s t (Err e) P = (a ≡ b) × IsSomeAnd (receiving e) (λ why. P (Stopped why))
