-- Why bytes don't recover.
use Rattle.std.specs.Prelude.{◌≡◌, ℕ, ◌+◌, ◌<◌, ◌≤◌, ◌^◌, ◌⊎◌, List, ◌++◌, length, take, drop, Some}
use Rattle.std.specs.Int.{w32, to_be_bytes}
use Rattle.tp_opid.specs.declared.doc_id.DocId.{DocId}
use Rattle.tp_layout.specs.declared.limits.TheConstants.{MAX_BYTES}
use Rattle.tp_layout.specs.declared.parts.ChangeParts.{ChangeParts}
use Rattle.tp_change.specs.ChangeHash.{hash_of}
use Rattle.tp_layout.specs.Limits.{IsChange}
use Rattle.tp_layout.specs.Spelling.{spelling}
use Rattle.tp_history.specs.declared.error.GraphError.{GraphError}
use Rattle.tp_history.specs.Fit.{cause}
use Rattle.tp_store.specs.declared.error.StoreError.{StoreError}
use Rattle.tp_store.specs.declared.error.StoreError.TheVariants.{BadMagic, Damaged, Refused, NoHeader}
use Rattle.tp_recovery.specs.declared.layout.TheConstants.{MAGIC}
use Rattle.tp_recovery.specs.Layout.{IsDocId, record_of, journal}
use Rattle.tp_recovery.specs.Recovery.{IsHistory}

-- As many bytes of the magic as there are, up to all 8, are at the start.
abbrev pub HasMagic : List ℕ → Type 0
HasMagic bytes = take 8 bytes ≡ take (length bytes) MAGIC

-- No change has these bytes and this digest.
abbrev pub IsNoChange : List ℕ → List ℕ → Type 0
IsNoChange bytes digest = (c : ChangeParts) → IsChange c → bytes ≡ spelling c → digest ≡ (hash_of c).0 → ⊥

-- The length that a record promises is 0 or past the limit; or the bytes and the digest are there, and are no change's.
abbrev pub IsWrong : ℕ → List ℕ → Type 0
IsWrong size rest = (size ≡ 0) ⊎ ((MAX_BYTES < size) ⊎ ((size + 32 ≤ length rest) × IsNoChange (take size rest) (take 32 (drop size rest))))

-- What is at the start of the bytes is neither a record of a change nor a beginning of one.
pub record IsDamaged (bytes : List ℕ) : Type 0 where
  pub size : ℕ
  pub rest : List ℕ
  pub fits : size < 2 ^ 32
  pub spelled : bytes ≡ to_be_bytes w32 size ++ rest
  pub wrong : IsWrong size rest

-- The record of a change is at the start, and the change can't enter after C, for this cause.
pub record RefusesNext (C : List ChangeParts) (bytes : List ℕ) (e : GraphError) : Type 0 where
  pub next : ChangeParts
  pub rest : List ℕ
  pub limits : IsChange next
  pub spelled : bytes ≡ record_of next ++ rest
  pub unfit : cause C next ≡ Some e

-- What is from the offset `at` on, after the records of C, has the fault: a damaged record, or one whose change
-- can't enter.
abbrev pub IsFaultAt : List ChangeParts → ℕ → List ℕ → StoreError → Type 0
IsFaultAt C at rest e = ((e ≡ Damaged at) × IsDamaged rest) ⊎ ((g : GraphError) × (e ≡ Refused g) × RefusesNext C rest g)

-- The bytes are the journal of changes, and what is after it has the fault.
pub record IsRecordFault (bytes : List ℕ) (e : StoreError) : Type 0 where
  pub id : DocId
  pub good : List ChangeParts
  pub rest : List ℕ
  pub is_id : IsDocId id
  pub history : IsHistory good
  pub spelled : bytes ≡ journal id good ++ rest
  pub wrong : IsFaultAt good (length (journal id good)) rest e

-- The bytes don't begin with a header: BadMagic where other bytes are in place of the magic, NoHeader where it isn't
-- whole.
abbrev pub IsHeaderFault : List ℕ → StoreError → Type 0
IsHeaderFault bytes e = ((e ≡ BadMagic) × (HasMagic bytes → ⊥)) ⊎ ((e ≡ NoHeader) × HasMagic bytes × (length bytes < 24))

-- The bytes are refused for this cause.
abbrev pub IsJournalFault : List ℕ → StoreError → Type 0
IsJournalFault bytes e = IsHeaderFault bytes e ⊎ IsRecordFault bytes e
