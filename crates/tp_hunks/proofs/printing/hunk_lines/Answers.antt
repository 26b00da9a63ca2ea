use Rattle.tp_hunks.proofs.PrintLaws.{hunk_joined}
use Rattle.tp_hunks.proofs.printing.hunk_lines.Goals as goal

pub returns : goal.returns
returns c =
    hunk_joined _ _ _ c.args.old.now c.args.new.now c.lines_at.result.now c.lines_at-2.result.now c.args.hunk.now c.in_ok-put_lines-2.ensures c.in_ok-put_lines.ensures
    c.in_ok-text.ensures c.lines_at.ensures c.lines_at-2.ensures
