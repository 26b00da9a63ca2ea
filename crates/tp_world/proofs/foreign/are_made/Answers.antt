use Rattle.tp_world.proofs.ForeignLaws.{all_more, all_of, not_all}
use Rattle.tp_world.proofs.foreign.are_made.Goals as goal

pub loop-change-preserved : goal.loop-change-preserved
loop-change-preserved c =
    all_more c.args.made.now c.args.changes.now c.loop-change.change-index c.change-item.result c.in_ok-known.known c.loop-change-test.true c.change-item.is c.in_ok-known.ensures.ok c.if-not-known.false c.loop-change.invariant

pub returns-then-not-known-clause-ok : goal.returns-then-not-known-clause-ok
returns-then-not-known-clause-ok c =
    not_all c.args.made.now c.args.changes.now c.loop-change.change-index c.change-item.result c.in_ok-known.known c.loop-change-test.true c.change-item.is c.in_ok-known.ensures.ok c.if-not-known.true

pub returns-clause-ok : goal.returns-clause-ok
returns-clause-ok c = all_of c.args.made.now c.args.changes.now c.loop-change.change-index c.loop-change-test.false c.loop-change.invariant
