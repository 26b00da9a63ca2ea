-- Clocks: version vectors by counters. Of each actor some of the changes have the operations below one number.
use Rattle.std.specs.Prelude.{◌≡◌, ◌⊎◌, ℕ, ◌+◌, List, [], ◌∷◌, Bool, if◌then◌else◌, nat_lt}
use Rattle.tp_ancestry.specs.Common.{lookup, In, Actor, OpId, same_actor, ChangeParts, later, op_count}
use Rattle.std.specs.Option.{unwrap_or}

-- one more than the greatest counter that the actor has in the changes, or 0 where it made none
abbrev pub end_of : List ChangeParts → Actor → ℕ
end_of [] a = 0
end_of (c ∷ C) a = if same_actor c.actor a then later (c.start + op_count c) (end_of C a) else end_of C a

-- what a map with these entries has at the actor, or 0
abbrev pub end_at : List (Actor × ℕ) → Actor → ℕ
end_at entries a = unwrap_or (lookup (same_actor a) entries) 0

-- whether the operation has a counter below what the map has at its actor
abbrev pub has_op : List (Actor × ℕ) → OpId → Bool
has_op entries id = nat_lt id.counter (end_at entries id.actor)

-- The map has the ends of the changes.
abbrev pub IsClockOf : List (Actor × ℕ) → List ChangeParts → Type 0
IsClockOf entries C = (a : Actor) → end_at entries a ≡ end_of C a

-- The map has the ends of these actors in the changes, and of no other actor a wrong one.
pub record HasEnds (C : List ChangeParts) (entries : List (Actor × ℕ)) (actors : List Actor) : Type 0 where
  pub noted : (a : Actor) → In a actors → end_at entries a ≡ end_of C a
  pub others : (a : Actor) → (end_at entries a ≡ end_of C a) ⊎ (end_at entries a ≡ 0)
