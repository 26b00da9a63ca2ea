-- The parts of a change that are kept in one of three ways.
use Rattle.std.specs.Prelude.{◌≡◌, ℕ, List, [], ◌∷◌}
use Rattle.tp_opid.specs.declared.hash.Hash.{Hash}
use Rattle.tp_layout.specs.declared.record.Record.{Record}
use Rattle.tp_layout.specs.declared.body.Few.{Few}
use Rattle.tp_layout.specs.declared.body.Few.TheVariants.{One, More}
use Rattle.tp_layout.specs.declared.body.Kept.{Kept}
use Rattle.tp_layout.specs.declared.body.Kept.TheVariants.{Small, Single, Large}

-- the sequence number
abbrev pub seq_of : Kept → ℕ
seq_of (Small seq dep entry) = seq
seq_of (Single seq dep message records) = seq
seq_of (Large seq message deps records) = seq

-- the message, which a small change doesn't have
abbrev pub message_of : Kept → List ℕ
message_of (Small seq dep entry) = []
message_of (Single seq dep message records) = message
message_of (Large seq message deps records) = message

-- the dependencies
abbrev pub deps_of : Kept → List Hash
deps_of (Small seq dep entry) = dep ∷ []
deps_of (Single seq dep message records) = dep ∷ []
deps_of (Large seq message deps records) = deps.items

-- the records
abbrev pub records_of : Kept → List Record
records_of (Small seq dep entry) = entry ∷ []
records_of (Single seq dep message records) = records.items
records_of (Large seq message deps records) = records.items

-- These are its parts.
pub record Has (number : ℕ) (text : List ℕ) (hashes : List Hash) (entries : List Record) (kept : Kept) : Type 0 where
  pub seq : seq_of kept ≡ number
  pub message : message_of kept ≡ text
  pub deps : deps_of kept ≡ hashes
  pub records : records_of kept ≡ entries

-- the elements of a list as it is read
abbrev pub items_of : {T : Type 0} → Few T → List T
items_of (One item) = item ∷ []
items_of (More items) = items.items
