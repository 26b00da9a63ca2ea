use Rattle.tp_graph.proofs.Common.{◌≡◌, ◌∙◌}
use Rattle.tp_history.specs.Fit as fit
use Rattle.tp_history.proofs.CountLaws.{clashes-reached}
use Rattle.tp_graph.proofs.applied.Applied.clashes.Goals as goal

pub returns : goal.returns
returns c =
    let seq : c.seq.result ≡ c.args.change.now.seq = c.seq.ensures in
    let count : c.len.result ≡ fit.count_by c.args.change.now.actor c.args.self.now.changes = c.len.ensures ∙ c.requires.all in
    rw (seq, count) (clashes-reached c.args.self.now.changes c.args.change.now c.changes-changes.ensures.sound c.hash-hash.ensures.limits.seq_from)
