use Rattle.tp_window.proofs.FirstLaws.{heads_more}
use Rattle.tp_window.proofs.first.heads_after.Goals as goal

pub loop-change-preserved : goal.loop-change-preserved
loop-change-preserved c =
    heads_more c.args.changes.now c.loop-change.change-index c.change-item.result c.loop-change.heads.items c.move_on.new.heads.items
    c.requires c.loop-change-test.true c.change-item.is c.loop-change.invariant c.in_ok-move_on.ensures
