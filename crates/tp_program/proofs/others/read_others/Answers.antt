use Rattle.std.proofs.Common.{refl}
use Rattle.tp_program.proofs.RescueLaws.{others_next, others_none}
use Rattle.tp_program.proofs.others.read_others.Goals as goal

pub loop-path-init : goal.loop-path-init
loop-path-init g c = others_none _ _ _ c.new.ensures.items c.new-2.ensures.items

pub loop-path-preserved : goal.loop-path-preserved
loop-path-preserved g c =
    others_next _ c.args.paths.now c.loop-path.path-index _ _ _ _ _ _ c.loop-path-test.true refl c.loop-path.invariant c.in_ok-read_other.ensures
