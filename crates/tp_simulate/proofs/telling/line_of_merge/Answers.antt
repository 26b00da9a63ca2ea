use Rattle.std.proofs.Common.{◌≡◌, ◌∙◌, length}
use Rattle.tp_simulate.proofs.telling.line_of_merge.Goals as goal

pub returns : goal.returns
returns c =
    let r = c.args.report.now in
    let applied : c.len-applied.result ≡ length r.applied.items = c.len-applied.ensures ∙ r.applied.ok.0 in
    rw applied at c.format.ensures.ok
