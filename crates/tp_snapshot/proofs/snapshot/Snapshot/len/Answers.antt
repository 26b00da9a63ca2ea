use Rattle.tp_snapshot.proofs.Common.{◌∙◌, ap, arith, length, take_all, shown_by}
use Rattle.tp_snapshot.proofs.snapshot.Snapshot.len.Goals as goal

pub returns : goal.returns
returns g c =
    let s = g.S.Sequence in
    c.count_before.ensures
    ∙ ap (λ l. length (shown_by c.args.self.now.clock (s.removals c.args.sequence.now) l)) (take_all c.all.result (s.placed c.args.sequence.now) (omega (arith, c.all.ensures)))
