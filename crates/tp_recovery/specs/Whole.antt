-- The whole records that are in bytes, whatever else does.
use Rattle.std.specs.Prelude.{◌≡◌, ◌≤◌, ◌-◌, ◌⊎◌, ℕ, List, [], ◌∷◌, ◌++◌, length, drop, map, Option, Some, None}
use Rattle.tp_list.specs.Members.{In}
use Rattle.tp_opid.specs.declared.doc_id.DocId.{DocId}
use Rattle.tp_layout.specs.declared.parts.ChangeParts.{ChangeParts}
use Rattle.tp_change.specs.ChangeHash.{hash_of}
use Rattle.tp_layout.specs.Limits.{IsChange}
use Rattle.tp_history.specs.Fit.{cause}
use Rattle.tp_store.specs.declared.error.StoreError.{StoreError}
use Rattle.tp_recovery.specs.declared.rescuing.WholeRecord.{WholeRecord}
use Rattle.tp_recovery.specs.Layout.{IsDocId, record_of, journal, IsShortTail}
use Rattle.tp_recovery.specs.Recovery.{IsHistory}
use Rattle.tp_recovery.specs.Refusals.{IsFaultAt, IsHeaderFault}

-- No record of a change is at the start.
abbrev pub BeginsNone : List ℕ → Type 0
BeginsNone bytes = (c : ChangeParts) → (rest : List ℕ) → IsChange c → bytes ≡ record_of c ++ rest → ⊥

-- A record of a change is somewhere.
abbrev pub HoldsRecord : List ℕ → Type 0
HoldsRecord bytes = (c : ChangeParts) × (before : List ℕ) × (rest : List ℕ) × IsChange c × (bytes ≡ before ++ (record_of c ++ rest))

-- No record begins within the first of the bytes, as many as these.
abbrev pub BeginsNoneWithin : List ℕ → List ℕ → Type 0
BeginsNoneWithin first bytes = (before rest : List ℕ) → bytes ≡ before ++ rest → (BeginsNone rest) ⊎ (length first ≤ length before)

-- a whole record: the offsets at which it begins and ends, and its change
pub record RecordAt : Type 0 where
  pub at : ℕ
  pub end : ℕ
  pub change : ChangeParts

-- These are the whole records in the bytes, each looked for after the one before. The bytes are the last of as many as
-- `total`, from whose first one the offsets count.
abbrev pub AreRecordsIn : ℕ → List ℕ → List RecordAt → Type 0
AreRecordsIn total bytes [] = (before rest : List ℕ) → bytes ≡ before ++ rest → BeginsNone rest
AreRecordsIn total bytes (w ∷ W) =
    (before : List ℕ) × (rest : List ℕ) × (bytes ≡ before ++ (record_of w.change ++ rest)) × IsChange w.change × BeginsNoneWithin before bytes
    × (w.at ≡ total - length (record_of w.change ++ rest)) × (w.end ≡ total - length rest) × AreRecordsIn total rest W

-- what is with_hash of a whole record
abbrev pub with_hash : RecordAt → WholeRecord
with_hash w = record { at = w.at; end = w.end; hash = hash_of w.change }

abbrev pub entry_change : RecordAt → ChangeParts
entry_change w = w.change

-- The records and the changes are those of the whole records in the bytes.
pub record AreFound (total : ℕ) (bytes : List ℕ) (records : List WholeRecord) (changes : List ChangeParts) : Type 0 where
  pub whole : List RecordAt
  pub are_whole : AreRecordsIn total bytes whole
  pub records_are : records ≡ map with_hash whole
  pub changes_are : changes ≡ map entry_change whole

-- What is after the records that are kept: a short tail, or what has the fault for which the bytes are refused.
abbrev pub TailFault : List ChangeParts → ℕ → List ℕ → Option StoreError → Type 0
TailFault C keep rest None = IsShortTail rest
TailFault C keep rest (Some fault) = IsFaultAt C keep rest fault

-- What recovering keeps: the bytes are the journal of these changes, and then the rest.
pub record KeepsRecords (bytes : List ℕ) (id : DocId) (C : List ChangeParts) (keep : ℕ) (rest : List ℕ) (fault : Option StoreError) : Type 0 where
  pub is_id : IsDocId id
  pub history : IsHistory C
  pub spelled : bytes ≡ journal id C ++ rest
  pub keep_is : keep ≡ length (journal id C)
  pub ends : TailFault C keep rest fault

-- Nothing is kept where the header has a fault: its first 8 bytes aren't the magic. The identifier is taken as it is
-- there.
pub record KeepsNothing (bytes : List ℕ) (id : DocId) (C : List ChangeParts) (keep : ℕ) (rest : List ℕ) (fault : Option StoreError) : Type 0 where
  pub magic : List ℕ
  pub error : StoreError
  pub is_id : IsDocId id
  pub spelled : bytes ≡ magic ++ (id.0 ++ rest)
  pub size : length magic ≡ 8
  pub none : C ≡ []
  pub keep_is : keep ≡ 0
  pub fault_is : fault ≡ Some error
  pub is_fault : IsHeaderFault bytes error

abbrev pub KeepsPart : List ℕ → DocId → List ChangeParts → ℕ → List ℕ → Option StoreError → Type 0
KeepsPart bytes id C keep rest fault = KeepsRecords bytes id C keep rest fault ⊎ KeepsNothing bytes id C keep rest fault

-- Where whole records are looked for: in the rest, after the changes that are kept; in all after the magic where none is,
-- since a byte of the header may be missing.
abbrev pub LooksIn : List ℕ → List ChangeParts → List ℕ → List ℕ → Type 0
LooksIn bytes [] rest looked = looked ≡ drop 8 bytes
LooksIn bytes (c ∷ C) rest looked = looked ≡ rest

-- What is in the bytes of a journal: what recovering keeps, and the whole records where they are looked for.
pub record Inspects (bytes : List ℕ) (id : DocId) (C : List ChangeParts) (keep : ℕ) (fault : Option StoreError) (records : List WholeRecord) (changes : List ChangeParts) : Type 0 where
  pub rest : List ℕ
  pub looked : List ℕ
  pub keeps : KeepsPart bytes id C keep rest fault
  pub looks : LooksIn bytes C rest looked
  pub found : AreFound (length bytes) looked records changes

-- Some of the changes were put after the old ones; where none did, none of them fits.
pub record EntersFitting (changes old new : List ChangeParts) : Type 0 where
  pub more : List ChangeParts
  pub grown : new ≡ old ++ more
  pub each : (c : ChangeParts) → In c more → In c changes
  pub unfit : more ≡ [] → (c : ChangeParts) → In c changes → cause old c ≡ None → ⊥

-- Some of the changes were put after the old ones, and none that fits is left out.
pub record Rescues (changes old new : List ChangeParts) : Type 0 where
  pub more : List ChangeParts
  pub grown : new ≡ old ++ more
  pub each : (c : ChangeParts) → In c more → In c changes
  pub complete : (c : ChangeParts) → In c changes → cause new c ≡ None → ⊥
