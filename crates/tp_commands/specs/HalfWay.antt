-- Texts between an old one and a new one.
use Rattle.std.specs.Prelude.{◌≡◌, ◌+◌, ◌<◌, ◌≤◌, ℕ, List, [], ◌∷◌, ◌++◌, Option, Some, None, drop, length, take}
use Rattle.tp_layout.specs.declared.parts.ChangeParts.{ChangeParts}
use Rattle.tp_document.specs.Editing.{DoesSplices}
use Rattle.tp_edit.specs.Text.{IsTextOf}
use Rattle.tp_edit.specs.declared.splice.Splice.{Splice}
use Rattle.tp_edit.specs.Splices.{inserted_chars}

-- where the last of the splices ends in the text that they leave; `from` where there are none
abbrev pub splices_end : ℕ → List Splice → ℕ
splices_end from [] = from
splices_end from (s ∷ ss) = splices_end (s.at + length (inserted_chars s)) ss

-- the text is new up to the place, and old after it
abbrev pub IsHalfWay : List ℕ → List ℕ → ℕ → List ℕ → Type 0
IsHalfWay old new at text = (m : ℕ) × (text ≡ take at new ++ drop m old)

-- where the first of the splices begins; `end` where there are none
abbrev pub splices_start : ℕ → List Splice → ℕ
splices_start end [] = end
splices_start end (s ∷ ss) = s.at

-- The place of a refusal, where the first of the splices were done and the rest weren't: where the rest begins; none where none was
-- done.
abbrev pub stopping_place : List Splice → List Splice → Option ℕ
stopping_place [] rest = None
stopping_place (s ∷ first) rest = Some (splices_start 0 rest)

-- The text of D is that of C with the first of the splices done, and with `more` of them; those that begin at the place are
-- among these, or are left.
abbrev pub DoesFirst : List ChangeParts → List ChangeParts → List Splice → Option ℕ → Type 0
DoesFirst C D ss None = Unit {0}
DoesFirst C D ss (Some at) =
    (first : List Splice) × (more : List Splice) × (rest : List Splice) × (ss ≡ first ++ (more ++ rest)) × DoesSplices C D (first ++ more)
    × (0 < length (more ++ rest)) × (at ≡ splices_start 0 (more ++ rest))

-- The text of D is new up to the place at least, where there is one, and old after that.
abbrev pub IsLeftAt : List ℕ → List ℕ → List ChangeParts → Option ℕ → Type 0
IsLeftAt old new D None = Unit {0}
IsLeftAt old new D (Some place) = (now : List ℕ) × (at : ℕ) × IsTextOf D now × (place ≤ at) × IsHalfWay old new at now
