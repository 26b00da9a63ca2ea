-- The elements that entries stand for.
use Rattle.std.specs.Prelude.{ℕ, ◌<◌, ◌≤◌, List, [], length, map, slice_index_or}
use Rattle.tp_opid.specs.declared.actor.Actor.{Actor}
use Rattle.tp_opid.specs.declared.op_id.OpId.{OpId}
use Rattle.tp_opid.specs.declared.op_id.Place.{Place}
use Rattle.tp_opid.specs.declared.op_id.Place.TheVariants.{Start, After}
use Rattle.tp_opid.specs.Insert.{Insert}
use Rattle.tp_elements.specs.declared.entry.Entry.{Entry}
use Rattle.tp_elements.specs.declared.entry.Reference.{Reference}
use Rattle.tp_elements.specs.declared.entry.Reference.TheVariants.{Start as AtStart, After as Behind}
use Rattle.tp_elements.specs.Came.{element_at}

-- an entry that stands for none
abbrev pub no_entry : Entry
no_entry = record { counter = 0; author = 0; after = AtStart; ch = 0 }

-- the entry with a number
abbrev pub entry_at : List Entry → ℕ → Entry
entry_at entries k = slice_index_or entries k no_entry

-- the actor with an index
abbrev pub author_at : List Actor → ℕ → Actor
author_at actors i = slice_index_or actors i (record { 0 = [] })

-- the identifier that an entry stands for
abbrev pub id_of_entry : List Actor → Entry → OpId
id_of_entry actors e = record { counter = e.counter; actor = author_at actors e.author }

-- the reference that one by number stands for
abbrev pub place_of : List Entry → List Actor → Reference → Place
place_of entries actors AtStart = Start
place_of entries actors (Behind k) = After (id_of_entry actors (entry_at entries k))

-- the element that an entry stands for
abbrev pub insert_of : List Entry → List Actor → Entry → Insert
insert_of entries actors e = record { id = id_of_entry actors e; after = place_of entries actors e.after; ch = e.ch }

-- the elements that the entries stand for
abbrev pub inserts_of_entries : List Entry → List Actor → List Insert
inserts_of_entries entries actors = map (insert_of entries actors) entries

-- A reference by number names one of the first n elements, or the start.
abbrev pub IsNumberBelow : ℕ → Reference → Type 0
IsNumberBelow n AtStart = Unit {0}
IsNumberBelow n (Behind k) = k < n

-- the reference that one by number stands for, among elements
abbrev pub place_of_reference : List Insert → Reference → Place
place_of_reference E AtStart = Start
place_of_reference E (Behind k) = After (element_at E k).id

-- Each entry's actor is in the table and its reference among the entries; there are no more actors than entries, and
-- numbers fit.
pub record AreEntered (entries : List Entry) (actors : List Actor) : Type 0 where
  pub few : length actors ≤ length entries
  pub most : length entries ≤ 4294967295
  pub authors : (k : ℕ) → k < length entries → (entry_at entries k).author < length actors
  pub references : (k : ℕ) → k < length entries → IsNumberBelow (length entries) (entry_at entries k).after
