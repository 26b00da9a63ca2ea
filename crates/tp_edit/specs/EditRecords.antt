-- The records of an edit. They depend on the identifiers of the visible elements alone.
use Rattle.std.specs.Prelude.{ℕ, ◌+◌, ◌^◌, ◌==◌, ◌&&◌, Bool, nat_lt, if◌then◌else◌, List, [], ◌∷◌, ◌++◌, length, take, drop, map}
use Rattle.tp_opid.specs.declared.actor.Actor.{Actor}
use Rattle.tp_opid.specs.declared.op_id.OpId.{OpId}
use Rattle.tp_opid.specs.declared.op_id.Place.{Place}
use Rattle.tp_opid.specs.declared.op_id.Place.TheVariants.{Start, After}
use Rattle.tp_opid.specs.Insert.{Insert}
use Rattle.tp_opid.specs.Same.{same_actor}
use Rattle.tp_layout.specs.declared.record.Record.{Record}
use Rattle.tp_layout.specs.declared.record.Record.TheVariants as record_of
use Rattle.tp_change.specs.OpIds.{ids_from}
use Rattle.tp_rga.specs.Shown.{visible_of}
use Rattle.tp_edit.specs.declared.splice.Splice.{Splice}
use Rattle.tp_edit.specs.Splices.{inserted_chars, count_of_splice, splice_at}

-- the identifiers of elements
abbrev pub ids_of : List Insert → List OpId
ids_of L = map (λ (e : Insert). e.id) L

-- the identifiers of the elements of L that no delete of R names
abbrev pub visible_ids : List (OpId × OpId) → List Insert → List OpId
visible_ids R L = ids_of (visible_of R L)

-- the reference after the last of the identifiers, or p where there are none
abbrev pub after_last : Place → List OpId → Place
after_last p [] = p
after_last p (x ∷ xs) = after_last (After x) xs

-- a delete of each element, in order
abbrev pub deletes_of : List OpId → List Record
deletes_of [] = []
deletes_of (x ∷ xs) = record_of.Delete x ∷ deletes_of xs

-- Whether the element goes on a stretch: it is of the same actor as the first one, and its counter is n higher.
abbrev pub goes_on : OpId → ℕ → OpId → Bool
goes_on first n x = same_actor first.actor x.actor && (x.counter == (first.counter + n))

-- whether the count of a record holds as many elements
abbrev pub can_count : ℕ → Bool
can_count n = nat_lt n (2 ^ 32)

-- one element alone as a delete, a stretch of more as a run
abbrev pub removal : OpId → ℕ → Record
removal first n = if n == 1 then record_of.Delete first else record_of.DeleteRun first n

-- the removals of a stretch and of the elements after it, where n elements of the stretch went before
abbrev pub removals_from : OpId → ℕ → List OpId → List Record
removals_from first n [] = removal first n ∷ []
removals_from first n (x ∷ xs) = if goes_on first n x && can_count (n + 1) then removals_from first (n + 1) xs else removal first n ∷ removals_from x 1 xs

-- The removals of elements, in order: each longest stretch of one actor's elements whose counters rise by 1 is one
-- record.
abbrev pub removals_of : List OpId → List Record
removals_of [] = []
removals_of (x ∷ xs) = removals_from x 1 xs

-- one run where there is text, none where there is none
abbrev pub runs_of : Place → List ℕ → List Record
runs_of after [] = []
runs_of after (ch ∷ text) = record_of.Insert after (ch ∷ text) ∷ []

-- The records of a splice, where V are the visible elements: the removals of the `del` elements from `at` on, and then
-- the text as a run after the element at `at - 1`, or at the start.
abbrev pub records_of_splice : List OpId → Splice → List Record
records_of_splice V s = removals_of (take s.del (drop s.at V)) ++ runs_of (after_last Start (take s.at V)) (inserted_chars s)

-- the visible elements after a splice whose first counter is n: the run's counters come after those of the deletes
abbrev pub ids_after : Actor → ℕ → List OpId → Splice → List OpId
ids_after actor n V s = splice_at V s.at s.del (ids_from actor (n + s.del) (length (inserted_chars s)))

-- The records of an edit whose first counter is n: each splice on the elements that the ones before it leave.
abbrev pub records_of_edit : Actor → ℕ → List OpId → List Splice → List Record
records_of_edit actor n V [] = []
records_of_edit actor n V (s ∷ ss) = records_of_splice V s ++ records_of_edit actor (n + count_of_splice s) (ids_after actor n V s) ss

-- the visible elements after an edit
abbrev pub ids_after_all : Actor → ℕ → List OpId → List Splice → List OpId
ids_after_all actor n V [] = V
ids_after_all actor n V (s ∷ ss) = ids_after_all actor (n + count_of_splice s) (ids_after actor n V s) ss
