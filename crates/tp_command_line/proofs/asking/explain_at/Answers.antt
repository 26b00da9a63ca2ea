use Rattle.std.proofs.Common.{◌∙◌, arith, sym}
use Rattle.tp_command_line.proofs.Places.{ends_nowhere, ends_there, none_so_far}
use Rattle.tp_command_line.proofs.asking.explain_at.Goals as goal

pub loop-at-preserved : goal.loop-at-preserved
loop-at-preserved c = (omega arith, none_so_far c.args.words.now c.loop-at.at _ c.loop-at-test.true c.loop-at.invariant.1 (sym c.ends_search.ensures ∙ c.if-not-ends_search.true))

pub returns-else-not-ends_search-clause-place : goal.returns-else-not-ends_search-clause-place
returns-else-not-ends_search-clause-place c = ends_there c.args.words.now c.loop-at.at _ c.loop-at-test.true c.loop-at.invariant.1 (sym c.ends_search.ensures ∙ c.if-not-ends_search.false)

pub returns-after-loop-at-clause-place : goal.returns-after-loop-at-clause-place
returns-after-loop-at-clause-place c = ends_nowhere c.args.words.now c.loop-at.at c.loop-at.invariant.0 c.loop-at-test.false c.loop-at.invariant.1
