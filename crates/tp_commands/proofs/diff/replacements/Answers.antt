use Rattle.tp_commands.proofs.DiffLaws.{replacements_more}
use Rattle.tp_commands.proofs.diff.replacements.Goals as goal

pub loop-difference-preserved : goal.loop-difference-preserved
loop-difference-preserved c =
    replacements_more c.args.new.now c.args.differences.now c.loop-difference.difference-index _ c.loop-difference.all.items _ _ c.loop-difference-test.true c.difference-item.is
    c.loop-difference.invariant c.replacement_of.ensures c.in_ok-push.ensures.items
