use Rattle.std.proofs.Common.{◌≡◌, take, drop}
use Rattle.std.specs.List.{All}
use Rattle.tp_change.specs.Validated.{validated_records}
use Rattle.tp_layout.specs.Limits.{IsTypedRecord}
use Rattle.tp_change.proofs.validating.validate_records.Given as goal

abbrev pub invariant-loop-entry : goal.invariant-loop-entry
invariant-loop-entry l =
    (validated_records l.room (drop l.entry-index l.records) ≡ validated_records l.initial.room l.records) × All IsTypedRecord (take l.entry-index l.records)
