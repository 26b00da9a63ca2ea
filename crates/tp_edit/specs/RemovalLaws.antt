-- What the removals of elements are: as many deletes, in as few records as can be.
use Rattle.std.specs.Prelude.{◌≡◌, ℕ, ◌+◌, ◌&&◌, Bool, false, List, ◌∷◌, ◌++◌}
use Rattle.tp_opid.specs.declared.actor.Actor.{Actor}
use Rattle.tp_opid.specs.declared.op_id.OpId.{OpId}
use Rattle.tp_layout.specs.declared.record.Record.{Record}
use Rattle.tp_layout.specs.declared.record.Record.TheVariants.{Insert, Delete, DeleteRun}
use Rattle.tp_change.specs.Operations.{ops_from}
use Rattle.tp_edit.specs.EditRecords.{deletes_of, removals_of, goes_on, can_count}

-- The operations of the removals are those of a delete of each element.
abbrev pub RemovalLaw : Type 0
RemovalLaw = (actor : Actor) (n : ℕ) (xs : List OpId) → ops_from actor n (removals_of xs) ≡ ops_from actor n (deletes_of xs)

-- whether the record deletes what comes next in a stretch of n elements, and one record can count them all
abbrev pub joins : OpId → ℕ → Record → Bool
joins first n (Insert after text) = false
joins first n (Delete x) = goes_on first n x && can_count (n + 1)
joins first n (DeleteRun x count) = goes_on first n x && can_count (n + count)

-- whether one record could say what the two say, one after the other
abbrev pub can_join : Record → Record → Bool
can_join (Insert after text) r = false
can_join (Delete x) r = joins x 1 r
can_join (DeleteRun first count) r = joins first count r

-- No two neighbours among the removals can be joined.
abbrev pub LongestLaw : Type 0
LongestLaw = (xs : List OpId) (before after : List Record) (r s : Record) → removals_of xs ≡ before ++ (r ∷ s ∷ after) → can_join r s ≡ false
