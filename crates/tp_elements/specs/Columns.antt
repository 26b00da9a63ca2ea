-- The entries that two columns hold.
use Rattle.std.specs.Prelude.{ℕ, zero, suc, List, [], ◌∷◌}
use Rattle.tp_elements.specs.declared.columns.Row.{Row}
use Rattle.tp_elements.specs.declared.entry.Entry.{Entry}
use Rattle.tp_elements.specs.declared.entry.Reference.{Reference}
use Rattle.tp_elements.specs.declared.entry.Reference.TheVariants.{Start as AtStart, After as Behind}

-- the entries, and how many more take no further memory
pub record ColumnsState : Type 0 where
  pub items : List Entry
  pub room : ℕ

-- the reference that a row keeps as a number
abbrev pub reference_of : ℕ → Reference
reference_of zero = AtStart
reference_of (suc k) = Behind k

-- the entry of a row and a character
abbrev pub entry_of : Row → ℕ → Entry
entry_of r ch = record { counter = r.counter; author = r.author; after = reference_of r.after; ch = ch }

-- the entries of rows and characters, each row with the character at its place
abbrev pub entries_of : List Row → List ℕ → List Entry
entries_of [] chars = []
entries_of (r ∷ rows) [] = []
entries_of (r ∷ rows) (ch ∷ chars) = entry_of r ch ∷ entries_of rows chars
