-- What contracts see of the elements by number.
use Rattle.std.specs.Prelude.{ℕ, List, [], slice_index_or}
use Rattle.tp_opid.specs.declared.op_id.Place.TheVariants.{Start}
use Rattle.tp_opid.specs.Insert.{Insert}

-- the elements in the order in which they came, and how many more take no further memory
pub record Came : Type 0 where
  pub items : List Insert
  pub room : ℕ

-- the element where there is none
abbrev pub blank : Insert
blank = record { id = record { counter = 0; actor = record { 0 = [] } }; after = Start; ch = 0 }

-- the element with a number
abbrev pub element_at : List Insert → ℕ → Insert
element_at E k = slice_index_or E k blank
