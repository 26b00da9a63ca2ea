-- The text of a set of changes.
use Rattle.std.specs.Prelude.{◌≡◌, ℕ, List, map}
use Rattle.tp_opid.specs.Insert.{Insert}
use Rattle.tp_layout.specs.declared.parts.ChangeParts.{ChangeParts}
use Rattle.tp_change.specs.Elements.{inserts, deletes}
use Rattle.tp_rga.specs.Order.{IsInOrder}
use Rattle.tp_rga.specs.Shown.{visible_of}

-- the characters of elements
abbrev pub chars_of : List Insert → List ℕ
chars_of L = map (λ (e : Insert). e.ch) L

-- t is the text of the changes C: the one list of all elements that C inserts, in the order of the text, kept to the
-- elements that no delete of C names.
pub record IsTextOf (C : List ChangeParts) (t : List ℕ) : Type 0 where
  pub elements : List Insert
  pub order : IsInOrder (inserts C) elements
  pub spells : t ≡ chars_of (visible_of (deletes C) elements)
