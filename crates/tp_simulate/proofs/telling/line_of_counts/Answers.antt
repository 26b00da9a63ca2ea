use Rattle.std.proofs.Common.{◌≡◌, ◌∙◌, length}
use Rattle.tp_simulate.proofs.telling.line_of_counts.Goals as goal

pub returns : goal.returns
returns c =
    let r = c.args.report.now in
    let applied : c.len-applied.result ≡ length r.applied.items = c.len-applied.ensures ∙ r.applied.ok.0 in
    let held : c.len-held.result ≡ length r.held.items = c.len-held.ensures ∙ r.held.ok.0 in
    let refused : c.len-refused.result ≡ length r.refused.items = c.len-refused.ensures ∙ r.refused.ok.0 in
    rw (applied, held, refused) at c.format.ensures.ok
