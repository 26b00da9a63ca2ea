-- Which changes of a list a past has.
use Rattle.std.specs.Prelude.{◌≡◌, ℕ, List, length, get_or, Bool, false}
use Rattle.tp_ancestry.specs.Common.{Hash, ChangeParts}
use Rattle.tp_ancestry.specs.declared.past_set.PastSet.{PastSet}
use Rattle.tp_ancestry.specs.declared.past_set.PastSet.TheVariants.{Within, Marked}
use Rattle.tp_ancestry.specs.VersionVectors.{held_from, ArePlaces, IsVectorOf}
use Rattle.tp_history.specs.Marks.{pick}

-- for each change of C whether the past has it
abbrev pub bits : PastSet → List ChangeParts → List Bool
bits (Within e) C = held_from C e.prefix e.latest.items 0 C
bits (Marked v) C = v.items

-- the changes that the past has
abbrev pub past_changes : PastSet → List ChangeParts → List ChangeParts
past_changes past_set C = pick (bits past_set C) C

-- The latest places are places of changes; or there is a mark for each change.
abbrev pub IsPastSetIn : PastSet → List ChangeParts → Type 0
IsPastSetIn (Within e) C = ArePlaces C e.latest.items
IsPastSetIn (Marked v) C = length v.items ≡ length C

-- A version vector is that of the past of the hashes.
abbrev pub IsPastSetOf : PastSet → List ChangeParts → List Hash → Type 0
IsPastSetOf (Within e) C H = IsVectorOf C H e
IsPastSetOf (Marked v) C H = Unit {0}

-- the past has the change at the place
abbrev pub holds : PastSet → List ChangeParts → ℕ → Bool
holds past_set C i = get_or (bits past_set C) i false

-- a place before which the past has every change: the prefix of a version vector, or the first place
abbrev pub prefix_of : PastSet → ℕ
prefix_of (Within e) = e.prefix
prefix_of (Marked v) = 0
