use Rattle.tp_message.proofs.Common.{parts_in}
use Rattle.tp_message.proofs.StepLaws.{version_step, version_fault}
use Rattle.tp_message.proofs.stages.on_version.Goals as goal

pub returns-then-version-eq1 : goal.returns-then-version-eq1
returns-then-version-eq1 c = λ rest. version_step (parts_in c.args.lists.now) c.args.field.now rest c.requires c.then-version-eq1.either

pub returns : goal.returns
returns c = λ rest. version_fault (parts_in c.args.lists.now) c.args.field.now rest c.requires c.if-version-eq1.false c.if-version-eq2.false
