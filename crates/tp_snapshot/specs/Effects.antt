-- What a change did: the text at what it depends on, and the differences that lead from there to the text at the change.
use Rattle.std.specs.Prelude.{◌≡◌, ℕ, ◌+◌, ◌&&◌, ◌||◌, Bool, not, nat_le, nat_lt, List, [], ◌∷◌}
use Rattle.tp_change.specs.Elements.{deletes_in}
use Rattle.tp_change.specs.Operations.{op_count, ops_of}
use Rattle.tp_ancestry.specs.Clocks.{has_op}
use Rattle.tp_opid.specs.Same.{same_actor}
use Rattle.tp_rga.specs.declared.walk.Seen.{Seen}
use Rattle.tp_snapshot.specs.Common.{In, Hash, Actor, OpId, Insert, ChangeParts, hash_of, past, chars, string_bytes, IsTextOf, is_removed}
use Rattle.tp_snapshot.specs.Differences.{AreDifferences, LeadsTo}
use Rattle.tp_snapshot.specs.Snapshots.{is_in_stretches, deletes_by}
use Rattle.tp_snapshot.specs.declared.effects.ChangeElements.{ChangeElements}
use Rattle.tp_snapshot.specs.declared.effects.Effect.{Effect}
use Rattle.tp_snapshot.specs.declared.snapshot.Snapshot.{Snapshot}

-- What the change with the hash did, among the changes C: the text at what it depends on, and the differences from there
-- to the text at it.
pub record IsEffect (C : List ChangeParts) (h : Hash) (m : Effect) : Type 0 where
  pub change : ChangeParts
  pub there : In change C
  pub hash : hash_of change ≡ h
  pub text : IsTextOf (past C change.deps) (chars (string_bytes m.text))
  pub each : AreDifferences C (past C change.deps) (past C (h ∷ [])) m.differences.items
  pub leads : LeadsTo (past C change.deps) (past C (h ∷ [])) m.differences.items

-- ---- how it is made

-- The change's operations are these, and its deletes name these.
pub record AreElementsOf (c : ChangeParts) (m : ChangeElements) : Type 0 where
  pub actor : m.actor ≡ c.actor
  pub start : m.start ≡ c.start
  pub end : m.end ≡ c.start + op_count c
  pub targets : (x : OpId) → is_in_stretches m.targets x ≡ is_removed (deletes_in (ops_of c)) x

-- whether the identifier is that of one of the change's operations
abbrev pub is_of_change : ChangeElements → OpId → Bool
is_of_change m x = (nat_le m.start x.counter && nat_lt x.counter m.end) && same_actor m.actor x.actor

-- the test of an element that a walk shows, at the change
abbrev pub test_after : Snapshot → ChangeElements → Seen → Bool
test_after s m x = (is_of_change m x.id || has_op s.clock x.id) && not (x.deleted && (is_in_stretches m.targets x.id || is_in_stretches s.targets x.id))

-- whether the operations of the past and the change show the element: one of them inserts it, and none deletes it
abbrev pub is_shown_after : List (Actor × ℕ) → List (OpId × OpId) → ChangeElements → Insert → Bool
is_shown_after K R m e = (is_of_change m e.id || has_op K e.id) && not (is_in_stretches m.targets e.id || is_removed (deletes_by K R) e.id)
