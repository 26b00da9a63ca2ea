-- What the records of an edit are made of.
use Rattle.std.specs.Prelude.{◌≡◌, ℕ, ◌+◌, ◌<◌, ◌≤◌, List, [], ◌∷◌, length}
use Rattle.std.specs.List.{AllByRecursion, flat_map}
use Rattle.tp_list.specs.Members.{In}
use Rattle.tp_opid.specs.declared.actor.Actor.{Actor}
use Rattle.tp_opid.specs.declared.op_id.OpId.{OpId}
use Rattle.tp_layout.specs.declared.limits.TheConstants.{MAX_BYTES, COUNTERS_END}
use Rattle.tp_layout.specs.Counts as operations
use Rattle.tp_layout.specs.Spelling.{spelling_of_record}
use Rattle.tp_layout.specs.Limits.{IsActor, IsText, IsRecord}
use Rattle.tp_edit.specs.declared.splice.Splice.{Splice}
use Rattle.tp_edit.specs.Splices.{inserted_chars, total_count, AllInRange, AllScalars}
use Rattle.tp_edit.specs.EditRecords.{records_of_edit}

-- Each identifier has a counter within the limit and an actor of its size.
abbrev pub AllIds : List OpId → Type 0
AllIds V = (x : OpId) → In x V → (x.counter < COUNTERS_END) × IsActor x.actor

-- Each inserted text is within the limit of a run.
abbrev pub AllTexts : List Splice → Type 0
AllTexts [] = Unit {0}
AllTexts (s ∷ ss) = IsText MAX_BYTES (inserted_chars s) × AllTexts ss

-- The records of an edit in range are as many operations as its splices take.
abbrev pub CountLaw : Type 0
CountLaw = (actor : Actor) (n : ℕ) (V : List OpId) (ss : List Splice) → AllInRange (length V) ss → operations.count_of (records_of_edit actor n V ss) ≡ total_count ss

-- The records of an edit keep the grammar of a change: identifiers of their sizes, texts within their limit, no
-- empty run, and runs of deletes whose targets are within the limit of counters.
abbrev pub RecordLaw : Type 0
RecordLaw = (actor : Actor) (n : ℕ) (V : List OpId) (ss : List Splice) → IsActor actor → n + total_count ss ≤ COUNTERS_END → AllIds V → AllTexts ss → AllByRecursion IsRecord (records_of_edit actor n V ss)

-- Where the records are spelled within the limit of a change, each text is within that of a run.
abbrev pub SizeLaw : Type 0
SizeLaw = (actor : Actor) (n : ℕ) (V : List OpId) (ss : List Splice) → AllScalars ss → length (flat_map spelling_of_record (records_of_edit actor n V ss)) ≤ MAX_BYTES → AllTexts ss
