-- Whether a change fits after the changes of a list, and why not.
use Rattle.std.specs.Prelude.{◌≡◌, IsTrue, ℕ, ◌+◌, ◌==◌, List, [], ◌∷◌, length, Bool, false, if◌then◌else◌, ◌||◌, ◌&&◌, Option, Some, None}
use Rattle.tp_history.specs.Common.{Actor, same_actor, ChangeParts, hash_of, ops_of, inserts, refers, next_counter}
use Rattle.tp_history.specs.declared.limits.TheConstants.{MOST_CHANGES}
use Rattle.tp_history.specs.declared.error.GraphError.{GraphError}
use Rattle.tp_history.specs.declared.error.GraphError.TheVariants.{Known, MissingDeps, BadSeq, BadStart, BadReference, SeqClash, Full}
use Rattle.tp_history.specs.Named.{has, has_all}
use Rattle.tp_history.specs.Past.{past}

-- how many of the changes the actor made
abbrev pub count_by : Actor → List ChangeParts → ℕ
count_by a [] = 0
count_by a (c ∷ C) = if same_actor c.actor a then count_by a C + 1 else count_by a C

-- One of the changes has c's actor and sequence number. It is asked only where none has c's hash.
abbrev pub clashes : List ChangeParts → ChangeParts → Bool
clashes [] c = false
clashes (d ∷ C) c = (same_actor d.actor c.actor && (d.seq == c.seq)) || clashes C c

-- The fault of numbers or references that c has after its past P, the first that holds.
unfoldable pub defect_after : List ChangeParts → ChangeParts → Option GraphError
defect_after P c =
    if c.seq == count_by c.actor P + 1 then
    (if c.start == next_counter P then (if refers (inserts P) (ops_of c) then None else Some BadReference)
    else Some BadStart)
    else Some BadSeq

-- the fault, or else SeqClash where the test holds
abbrev pub or_clash : Option GraphError → Bool → Option GraphError
or_clash (Some e) b = Some e
or_clash None b = if b then Some SeqClash else None

-- Why c doesn't fit after C: the first that holds, or None where it fits. Known: a change of C has its hash.
-- MissingDeps: a dependency isn't in C. BadSeq, BadStart, BadReference: judged on the past of its dependencies
-- alone. SeqClash: another change of C has its actor and sequence number.
unfoldable pub defect : List ChangeParts → ChangeParts → Option GraphError
defect C c =
    if has C (hash_of c) then Some Known
    else if has_all C c.deps then or_clash (defect_after (past C c.deps) c) (clashes C c)
    else Some MissingDeps

-- how many changes a graph has at most
abbrev pub most_changes : ℕ
most_changes = MOST_CHANGES

-- the defect, or else Full where the list has as many changes as a graph may have
abbrev pub or_full : Option GraphError → Bool → Option GraphError
or_full (Some e) b = Some e
or_full None b = if b then Some Full else None

-- Why c can't enter after C: its defect, or else Full; None where it can enter.
unfoldable pub cause : List ChangeParts → ChangeParts → Option GraphError
cause C c = or_full (defect C c) (length C == most_changes)

-- What each cause asks of c after C; the order in which they are judged is that of their numbers.
-- Known: no change of C has its hash.
-- MissingDeps: each dependency is in C.
-- BadSeq, BadStart, BadReference: its sequence number, its start and its references are right after the past of its
--   dependencies.
-- SeqClash: no other change of C has its actor and sequence number.
-- Full: C has fewer changes than a graph may have.
-- The others: nothing.
abbrev pub PassesEntry : List ChangeParts → ChangeParts → GraphError → Type 0
PassesEntry C c Known = has C (hash_of c) ≡ false
PassesEntry C c MissingDeps = IsTrue (has_all C c.deps)
PassesEntry C c BadSeq = IsTrue (c.seq == count_by c.actor (past C c.deps) + 1)
PassesEntry C c BadStart = IsTrue (c.start == next_counter (past C c.deps))
PassesEntry C c BadReference = IsTrue (refers (inserts (past C c.deps)) (ops_of c))
PassesEntry C c SeqClash = clashes C c ≡ false
PassesEntry C c Full = (length C == most_changes) ≡ false
PassesEntry C c e = Unit {0}
