use Rattle.std.proofs.Common.{◌∙◌, subst}
use Rattle.std.specs.List.{All}
use Rattle.std.proofs.lemmas.List.{take_all}
use Rattle.std.proofs.lemmas.List.Elements.{All-more}
use Rattle.tp_layout.specs.Limits.{IsTypedRecord}
use Rattle.tp_change.proofs.ValidatedSteps.{records_step}
use Rattle.tp_change.proofs.validating.validate_records.Goals as goal

pub loop-entry-preserved : goal.loop-entry-preserved
loop-entry-preserved c = (
  records_step _ _ _ _ _ c.loop-entry-test.true c.entry-item.is c.in_ok-room.ensures.value c.in_ok-room.ensures.count.0 ∙ c.loop-entry.invariant.0,
  All-more IsTypedRecord _ _ c.entry-item.result c.loop-entry-test.true c.loop-entry.invariant.1 (subst IsTypedRecord c.entry-item.is c.in_ok-room.ensures.typed),
)

pub returns-clause-typed : goal.returns-clause-typed
returns-clause-typed c = subst (All IsTypedRecord) (take_all _ _ c.loop-entry-test.false) c.loop-entry.invariant.1
