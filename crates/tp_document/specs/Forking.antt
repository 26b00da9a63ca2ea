-- Changes at places, of which a fork is made.
use Rattle.std.specs.Prelude.{ℕ, List, [], ◌∷◌, Option, Some, None}
use Rattle.tp_document.specs.Common.{slice_get, ChangeParts}

-- the change before the others, where there is one
abbrev pub with_change : Option ChangeParts → List ChangeParts → List ChangeParts
with_change None C = C
with_change (Some c) C = c ∷ C

-- the changes of the list that have these places
abbrev pub changes_at_places : List ChangeParts → List ℕ → List ChangeParts
changes_at_places C [] = []
changes_at_places C (i ∷ places) = with_change (slice_get C i) (changes_at_places C places)
