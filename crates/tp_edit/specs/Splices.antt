-- What splices ask of a text, and what they make of it. Positions and lengths count Unicode scalar values.
use Rattle.std.specs.Prelude.{ℕ, ◌+◌, ◌-◌, ◌≤◌, List, [], ◌∷◌, ◌++◌, length, take, drop, IsTrue}
use Rattle.std.specs.Str.{chars, all_scalars}
use Rattle.tp_edit.specs.declared.splice.Splice.{Splice}

-- the characters that the splice inserts
abbrev pub inserted_chars : Splice → List ℕ
inserted_chars s = chars s.text.now

-- Each inserted text is of Unicode scalar values, as the text of every `&str` is.
abbrev pub AllScalars : List Splice → Type 0
AllScalars [] = Unit {0}
AllScalars (s ∷ ss) = IsTrue (all_scalars (inserted_chars s)) × AllScalars ss

-- how many operations the splice takes: one for each deleted element, one for each inserted character
abbrev pub count_of_splice : Splice → ℕ
count_of_splice s = s.del + length (inserted_chars s)

-- how many operations the splices take together
abbrev pub total_count : List Splice → ℕ
total_count [] = 0
total_count (s ∷ ss) = count_of_splice s + total_count ss

-- The splice is within a text of that many characters.
abbrev pub IsInRange : ℕ → Splice → Type 0
IsInRange len s = s.at + s.del ≤ len

-- Each splice is within the text that the ones before it leave.
abbrev pub AllInRange : ℕ → List Splice → Type 0
AllInRange len [] = Unit {0}
AllInRange len (s ∷ ss) = IsInRange len s × AllInRange (len - s.del + length (inserted_chars s)) ss

-- the list with the `del` elements from `at` on replaced by the new ones
abbrev pub splice_at : {X : Type 0} → List X → ℕ → ℕ → List X → List X
splice_at L at del new = take at L ++ (new ++ drop (at + del) L)

-- the text with each splice done in turn
abbrev pub all_spliced : List ℕ → List Splice → List ℕ
all_spliced text [] = text
all_spliced text (s ∷ ss) = all_spliced (splice_at text s.at s.del (inserted_chars s)) ss
