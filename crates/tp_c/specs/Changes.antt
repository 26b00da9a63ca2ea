-- What is read of single changes, by the status.
use Rattle.std.specs.Prelude.{◌≡◌, ◌⊎◌, ℕ, ◌+◌, ◌<◌, ◌≤◌, List, [], ◌∷◌, ◌++◌, length, slice_index_or}
use Rattle.std.specs.Str.{chars}
use Rattle.tp_change.specs.ChangeHash.{hash_of}
use Rattle.tp_change.specs.Operations.{op_count}
use Rattle.tp_layout.specs.declared.parts.ChangeParts.{ChangeParts}
use Rattle.tp_layout.specs.declared.record.Record.{Record}
use Rattle.tp_layout.specs.declared.record.Record.TheVariants as record_of
use Rattle.tp_c.specs.Heads.{hash_bytes}
use Rattle.tp_c.specs.declared.changes.FlatChange.{FlatChange}

-- The change is the applied one with this number, from 0.
pub record IsApplied (C : List ChangeParts) (number : ℕ) (c : ChangeParts) : Type 0 where
  pub there : number < length C
  pub at : c ≡ slice_index_or C number c

-- What was asked of the change with this number was answered as Answers says; or there is none, or memory was refused.
abbrev pub OfChange : List ChangeParts → ℕ → (ChangeParts → Type 0) → ℕ → Type 0
OfChange C number Answers status =
    ((status ≡ 0) × ((c : ChangeParts) × IsApplied C number c × Answers c))
    ⊎ (((status ≡ 3) × (length C ≤ number)) ⊎ (status ≡ 1))

-- how many characters the records insert
abbrev pub inserted_in : List Record → ℕ
inserted_in [] = 0
inserted_in (record_of.Insert after text ∷ rs) = length text + inserted_in rs
inserted_in (record_of.Delete target ∷ rs) = inserted_in rs
inserted_in (record_of.DeleteRun first count ∷ rs) = inserted_in rs

-- The numbers are those of the change. Each of its operations inserts a character or deletes one.
pub record IsFlat (c : ChangeParts) (x : FlatChange) : Type 0 where
  pub hash : x.hash ≡ (hash_of c).0
  pub actor : x.actor ≡ c.actor.0
  pub seq : x.seq ≡ c.seq
  pub time : x.time ≡ c.time
  pub deps : x.deps ≡ length c.deps
  pub inserted : x.inserted ≡ inserted_in c.records
  pub deleted : x.inserted + x.deleted ≡ op_count c

-- The bytes are the hashes that the change depends on, and its message after them.
pub record NamesDeps (c : ChangeParts) (bytes : List ℕ) : Type 0 where
  pub message : List ℕ
  pub reads : chars message ≡ c.message
  pub parts : bytes ≡ hash_bytes c.deps ++ message
