use Rattle.tp_hunks.proofs.UnifiedLaws.{hunk_put}
use Rattle.tp_hunks.proofs.unified.put_hunk.Goals as goal

pub returns : goal.returns
returns c =
    hunk_put _ _ _ _ c.args.old.now c.args.new.now c.lines_from.result.now c.lines_at.result.now c.lines_at-2.result.now c.args.at _ c.args.hunk.now
    c.in_ok-put_lines.ensures c.in_ok-put_lines-2.ensures c.in_ok-put_lines-3.ensures c.lines_from.ensures c.saturating_sub-between.ensures c.lines_at.ensures c.lines_at-2.ensures
