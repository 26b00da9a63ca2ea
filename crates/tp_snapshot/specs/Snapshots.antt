-- The operations of a part of the changes, given by counters: of each actor the part has those below one number.
use Rattle.std.specs.Prelude.{◌≡◌, ◌⊎◌, ◌≤◌, ◌&&◌, ℕ, List, Bool, if◌then◌else◌, nat_le, nat_lt, filter}
use Rattle.std.specs.Ordering.{ordering_then}
use Rattle.std.specs.declared.cmp.Ordering.{Ordering}
use Rattle.std.specs.declared.cmp.Ordering.TheVariants.{Less, Equal, Greater}
use Rattle.tp_snapshot.specs.Common.{Actor, OpId, Insert, visible_of, list_any, is_removed}
use Rattle.tp_opid.specs.Order.{actor_cmp}
use Rattle.tp_opid.specs.Same.{same_actor}
use Rattle.tp_ancestry.specs.Clocks.{end_at, has_op}
use Rattle.tp_snapshot.specs.declared.author.Author.{Author}
use Rattle.tp_snapshot.specs.declared.targets.Stretch.{Stretch}

-- the elements whose insert is among the operations
abbrev pub inserts_by : List (Actor × ℕ) → List Insert → List Insert
inserts_by entries L = filter (λ (e : Insert). has_op entries e.id) L

-- the deletes that are among the operations
abbrev pub deletes_by : List (Actor × ℕ) → List (OpId × OpId) → List (OpId × OpId)
deletes_by entries R = filter (λ (r : OpId × OpId). has_op entries r.1) R

-- the elements that the operations insert and don't delete
abbrev pub shown_by : List (Actor × ℕ) → List (OpId × OpId) → List Insert → List Insert
shown_by entries R L = visible_of (deletes_by entries R) (inserts_by entries L)

-- whether the element is one of the stretch
abbrev pub is_within : Stretch → OpId → Bool
is_within s x = (nat_le s.low x.counter && nat_le x.counter s.high) && same_actor s.actor x.actor

-- whether the element is one of these stretches
abbrev pub is_in_stretches : List Stretch → OpId → Bool
is_in_stretches stretches x = list_any (λ s. is_within s x) stretches

-- `Equal` where the element is one of the stretch, else on which side of it the stretch is
abbrev pub stretch_cmp : Stretch → OpId → Ordering
stretch_cmp s x = ordering_then (actor_cmp s.actor x.actor) (if nat_lt s.high x.counter then Less else if nat_lt x.counter s.low then Greater else Equal)

-- The actor of s is below that of t, or they have one and s begins no later.
abbrev pub StartsBefore : Stretch → Stretch → Type 0
StartsBefore s t = (actor_cmp s.actor t.actor ≡ Less) ⊎ ((s.actor ≡ t.actor) × (s.low ≤ t.low))

-- The actor of s is below that of t, or they have one and s neither begins nor ends later.
abbrev pub StretchPrecedes : Stretch → Stretch → Type 0
StretchPrecedes s t = (actor_cmp s.actor t.actor ≡ Less) ⊎ ((s.actor ≡ t.actor) × (s.low ≤ t.low) × (s.high ≤ t.high))

-- The stretches cover the targets of the deletes that are among the operations.
abbrev pub AreTargets : List Stretch → List (Actor × ℕ) → List (OpId × OpId) → Type 0
AreTargets stretches entries R = (x : OpId) → is_in_stretches stretches x ≡ is_removed (deletes_by entries R) x

-- The actor's operations end there.
abbrev pub IsAuthorOf : List (Actor × ℕ) → Author → Type 0
IsAuthorOf entries author = author.end ≡ end_at entries author.actor
