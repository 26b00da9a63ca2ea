-- What the deletes of a text leave of it. A deleted element stays in the list as a tombstone.
use Rattle.std.specs.Prelude.{ℕ, Bool, not, Option, List, length, take, filter, position}
use Rattle.std.specs.Option.{option_map}
use Rattle.std.specs.List.{list_any}
use Rattle.tp_opid.specs.declared.op_id.OpId.{OpId}
use Rattle.tp_opid.specs.Insert.{Insert}
use Rattle.tp_opid.specs.Same.{id_eq}
use Rattle.tp_rga.specs.declared.element.Element.{Element}
use Rattle.tp_rga.specs.declared.walk.Seen.{Seen}

-- Some delete of R names the element x. A delete is its target and the operation that deleted it.
abbrev pub is_removed : List (OpId × OpId) → OpId → Bool
is_removed R x = list_any (λ r. id_eq r.0 x) R

-- The elements of L that no delete of R names.
abbrev pub visible_of : List (OpId × OpId) → List Insert → List Insert
visible_of R L = filter (λ e. not (is_removed R e.id)) L

-- The index in L of the first element with the identifier x, or `None` where none has it.
abbrev pub index_in : List Insert → OpId → Option ℕ
index_in L x = position (λ e. id_eq e.id x) L

-- How many shown elements are before the element x of L, or `None` where L lacks it.
abbrev pub visible_before : List (OpId × OpId) → List Insert → OpId → Option ℕ
visible_before R L x = option_map (λ i. length (visible_of R (take i L))) (position (λ e. id_eq e.id x) L)

-- An insert as a caller sees it.
abbrev pub element_of : List (OpId × OpId) → Insert → Element
element_of R e = record { id = e.id; after = e.after; ch = e.ch; deleted = is_removed R e.id }

-- An insert as a walk shows it.
abbrev pub seen_of : List (OpId × OpId) → Insert → Seen
seen_of R e = record { id = e.id; ch = e.ch; deleted = is_removed R e.id }
