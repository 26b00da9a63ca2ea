use Rattle.std.proofs.Common.{◌∙◌}
use Rattle.tp_change.proofs.ValidatedLaws.{on_change, ok_change, faults_of_parts, never_memory}
use Rattle.tp_change.proofs.validating.validate.Goals as goal

pub returns-clause-within : goal.returns-clause-within
returns-clause-within c = on_change _ _ c.validate_fields.ensures.value c.validate_fields.ensures.typed

pub returns-clause-only : goal.returns-clause-only
returns-clause-only c = λ h. c.validate_fields.ensures.value ∙ ok_change _ h

pub returns-clause-faults : goal.returns-clause-faults
returns-clause-faults c = faults_of_parts _ _ c.validate_fields.ensures.value

pub returns-clause-memory : goal.returns-clause-memory
returns-clause-memory c = never_memory _ _ c.validate_fields.ensures.value
