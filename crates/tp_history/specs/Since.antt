-- What is outside a past.
use Rattle.std.specs.Prelude.{ℕ, List, [], ◌∷◌, Bool, ◌||◌, not, if◌then◌else◌, map}
use Rattle.tp_history.specs.Common.{Hash, ChangeParts}
use Rattle.tp_history.specs.Named.{names, is_needed}
use Rattle.tp_history.specs.Past.{past}
use Rattle.tp_history.specs.Marks.{marks, marked_more, places_from}

-- the changes outside the past of H, in the order of the list
abbrev pub since : List ChangeParts → List Hash → List ChangeParts
since [] H = []
since (c ∷ C) H = if names H c || is_needed (past C H) c then since C H else c ∷ since C H

-- for each change of C whether it is outside the past of H, or K names it
abbrev pub marks_since : List ChangeParts → List Hash → List Hash → List Bool
marks_since C H K = marked_more K C (map not (marks C H))

-- the changes that aren't marked
abbrev pub skip : List Bool → List ChangeParts → List ChangeParts
skip [] C = []
skip (b ∷ bs) [] = []
skip (b ∷ bs) (c ∷ C) = if b then skip bs C else c ∷ skip bs C

-- the places, from 0, of the changes in the past of H, rising
abbrev pub past_places : List ChangeParts → List Hash → List ℕ
past_places C H = places_from 0 (marks C H)
