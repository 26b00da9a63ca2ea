use Rattle.tp_ancestry.proofs.Common.{subst, take_all, HasEnds, past_changes}
use Rattle.tp_ancestry.proofs.ClockLaws.{clocks_first, clocks_more}
use Rattle.tp_ancestry.proofs.ancestry.Ancestry.ends.Goals as goal

pub loop-actor-init : goal.loop-actor-init
loop-actor-init c = clocks_first (past_changes c.args.past_set.now c.args.self.now.changes) c.new-clock.result c.new-clock.ensures

pub loop-actor-preserved : goal.loop-actor-preserved
loop-actor-preserved c =
    clocks_more (past_changes c.args.past_set.now c.args.self.now.changes) c.loop-actor.clock c.set.new.self c.args.actors.now c.loop-actor.actor-index _ c.loop-actor-test.true
    c.end_in.result c.end_in.ensures c.in_ok-set.ensures c.loop-actor.invariant

pub returns : goal.returns
returns c = subst (HasEnds (past_changes c.args.past_set.now c.args.self.now.changes) c.loop-actor.clock) (take_all c.loop-actor.actor-index c.args.actors.now c.loop-actor-test.false) c.loop-actor.invariant
