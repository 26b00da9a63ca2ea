-- A past as marks, one for each change of the list.
use Rattle.std.specs.Prelude.{ℕ, ◌+◌, List, [], ◌∷◌, Bool, ◌||◌, if◌then◌else◌, ◌++◌, take, drop}
use Rattle.tp_history.specs.Common.{Hash, ChangeParts}
use Rattle.tp_history.specs.Named.{names, is_needed}
use Rattle.tp_history.specs.Past.{past}

-- whether each change is in the past of H
abbrev pub marks : List ChangeParts → List Hash → List Bool
marks [] H = []
marks (c ∷ C) H = (names H c || is_needed (past C H) c) ∷ marks C H

-- the changes that are marked
abbrev pub pick : List Bool → List ChangeParts → List ChangeParts
pick [] C = []
pick (b ∷ bs) [] = []
pick (b ∷ bs) (c ∷ C) = if b then c ∷ pick bs C else pick bs C

-- the places that are marked, where the first has the number n
abbrev pub places_from : ℕ → List Bool → List ℕ
places_from n [] = []
places_from n (b ∷ bs) = if b then n ∷ places_from (n + 1) bs else places_from (n + 1) bs

-- the marks, and one more on each change that H names
abbrev pub marked_more : List Hash → List ChangeParts → List Bool → List Bool
marked_more H [] bs = bs
marked_more H (c ∷ C) [] = []
marked_more H (c ∷ C) (b ∷ bs) = (b || names H c) ∷ marked_more H C bs

-- whether H names each change, or one of K depends on it
abbrev pub marks_for : List ChangeParts → List ChangeParts → List Hash → List Bool
marks_for [] K H = []
marks_for (c ∷ C) K H = (names H c || is_needed K c) ∷ marks_for C K H

-- the state of the walk at the place m: what it passed has its marks, what is before has those by what it passed
abbrev pub marks_of_walk : List ChangeParts → List Hash → ℕ → List Bool
marks_of_walk C H m = marks_for (take m C) (past (drop m C) H) H ++ marks (drop m C) H
