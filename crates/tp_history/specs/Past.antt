-- The past of hashes in a list of changes where dependencies come before dependents.
use Rattle.std.specs.Prelude.{List, [], ◌∷◌, if◌then◌else◌, ◌||◌}
use Rattle.tp_history.specs.Common.{Hash, ChangeParts}
use Rattle.tp_history.specs.Named.{names, is_needed}

-- c before the later changes that are kept, where H names it or one of them depends on it
abbrev pub with_reached : List Hash → ChangeParts → List ChangeParts → List ChangeParts
with_reached H c later = if names H c || is_needed later c then c ∷ later else later

-- the changes that H names and all that they depend on, in the order of the list
abbrev pub past : List ChangeParts → List Hash → List ChangeParts
past [] H = []
past (c ∷ C) H = with_reached H c (past C H)
