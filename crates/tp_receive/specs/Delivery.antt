-- Which changes of a list are deliverable, and how many slots the others take.
use Rattle.std.specs.Prelude.{ℕ, ◌+◌, List, [], ◌∷◌, ◌++◌, length, Bool, ◌||◌, not, if◌then◌else◌, nat_lt}
use Rattle.tp_receive.specs.Common.{ChangeParts, hash_of, has, most_waiting, has_all}

-- The changes of K, each with whether it is deliverable after C: each of its dependencies is one of C, or an earlier
-- deliverable change of K.
abbrev pub delivery : List ChangeParts → List ChangeParts → List (ChangeParts × Bool)
delivery C [] = []
delivery C (c ∷ K) = (c, has_all C c.deps) ∷ delivery (if has_all C c.deps then C ++ c ∷ [] else C) K

-- those that are undeliverable
abbrev pub undeliverable : List (ChangeParts × Bool) → List ChangeParts
undeliverable [] = []
undeliverable (d ∷ D) = if d.1 then undeliverable D else d.0 ∷ undeliverable D

-- A change takes a slot of its own where it is undeliverable and none of V has its hash.
abbrev pub takes_slot : List ChangeParts → ChangeParts × Bool → Bool
takes_slot V d = not (d.1 || has V (hash_of d.0))

-- The changes, each with whether it takes a slot of its own beside V and those before it.
abbrev pub with_slots : List ChangeParts → List (ChangeParts × Bool) → List (ChangeParts × Bool)
with_slots V [] = []
with_slots V (d ∷ D) = (d.0, takes_slot V d) ∷ with_slots (if takes_slot V d then V ++ d.0 ∷ [] else V) D

-- how many of the changes take a slot of their own
abbrev pub slots : List (ChangeParts × Bool) → ℕ
slots [] = 0
slots (p ∷ P) = if p.1 then slots P + 1 else slots P

-- what waits after C and the slots that the changes K take are more than may wait
abbrev pub is_full : List ChangeParts → List ChangeParts → List ChangeParts → Bool
is_full C W K = nat_lt most_waiting (length W + slots (with_slots W (delivery C K)))
