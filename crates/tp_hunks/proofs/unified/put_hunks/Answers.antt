use Rattle.std.proofs.Common.{arith}
use Rattle.tp_hunks.proofs.UnifiedLaws.{hunks_put}
use Rattle.tp_hunks.proofs.unified.put_hunks.Goals as goal

pub returns : goal.returns
returns c =
    hunks_put _ _ _ c.args.old.now c.args.new.now _ c.args.context c.loop-hunk.from c.args.at c.loop-hunk.hunk-index c.args.hunks.now
    c.in_ok-put_lines.ensures c.lines_from.ensures (omega (arith, c.loop-hunk-test.false)) c.loop-hunk.invariant
