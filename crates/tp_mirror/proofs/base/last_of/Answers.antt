use Rattle.tp_mirror.proofs.Places.{last_found, none_found}
use Rattle.tp_mirror.proofs.base.last_of.Goals as goal

pub returns-clause-found : goal.returns-clause-found
returns-clause-found c = last_found c.loop-at.last c.args.texts.now c.args.generation c.loop-at.at c.loop-at-test.false c.loop-at.invariant.last

pub returns-clause-none : goal.returns-clause-none
returns-clause-none c = λ e. none_found c.args.texts.now c.args.generation c.loop-at.at c.loop-at-test.false (c.loop-at.invariant.none e)
