-- How far the bytes of a journal that came in pieces are read.
use Rattle.std.specs.Prelude.{◌≡◌, ℕ, ◌<◌, ◌⊎◌, List, [], ◌++◌, length}
use Rattle.tp_document.specs.DocState.{DocState}
use Rattle.tp_store.specs.declared.error.StoreError.{StoreError}
use Rattle.tp_store.specs.declared.error.StoreError.TheVariants.{OutOfMemory}
use Rattle.tp_recovery.specs.declared.pieces.Stage.{Stage}
use Rattle.tp_recovery.specs.declared.pieces.Stage.TheVariants.{Header, Records, Refused}
use Rattle.tp_recovery.specs.Layout.{IsDocId, journal, IsShortTail}
use Rattle.tp_recovery.specs.Recovery.{IsHistory}
use Rattle.tp_recovery.specs.Refusals.{HasMagic, IsJournalFault}

-- The bytes are refused, whatever comes after them, or memory was.
abbrev pub RefusesFrom : List ℕ → StoreError → Type 0
RefusesFrom came e = (e ≡ OutOfMemory) ⊎ ((more : List ℕ) → IsJournalFault (came ++ more) e)

-- The bytes are the journal of the document, in which nothing waits, and then the rest. `keep` is how many bytes the
-- journal has.
pub record BeginsWithJournal (came : List ℕ) (d : DocState) (keep : ℕ) (rest : List ℕ) : Type 0 where
  pub is_id : IsDocId d.id
  pub history : IsHistory d.applied
  pub waiting : d.waiting ≡ []
  pub spelled : came ≡ journal d.id d.applied ++ rest
  pub keep_is : keep ≡ length (journal d.id d.applied)

-- The bytes that came are those that are read, and then the rest, which may have more to read.
abbrev pub HasRead : {S : Type 0} → List ℕ → Stage S → List ℕ → Type 0
HasRead came Header rest = came ≡ rest
HasRead came (Records r) rest = BeginsWithJournal came r.document r.keep rest
HasRead came (Refused e) rest = RefusesFrom came e

-- All is read that is whole: the rest is a beginning of a header, or of a record.
abbrev pub HasReadAll : {S : Type 0} → List ℕ → Stage S → List ℕ → Type 0
HasReadAll came Header rest = (came ≡ rest) × HasMagic rest × (length rest < 24)
HasReadAll came (Records r) rest = BeginsWithJournal came r.document r.keep rest × IsShortTail rest
HasReadAll came (Refused e) rest = RefusesFrom came e
