use Rattle.tp_snapshot.proofs.Common.{subst, AreTargets}
use Rattle.tp_snapshot.proofs.WindowLaws.{tells_at, tells_none}
use Rattle.tp_snapshot.proofs.differences.snapshot_within.Goals as goal

pub returns-then-has_deleted-clause-tells : goal.returns-then-has_deleted-clause-tells
returns-then-has_deleted-clause-tells g c =
    let s = g.S.Sequence in
    let T = c.in_ok-targets.targets in
    tells_at (record { clock = c.args.clock; targets = T }) (s.removals c.args.sequence.now) (s.placed c.args.sequence.now) c.args.window.now
    (subst (λ D. AreTargets T c.args.clock D) c.deletes.ensures c.in_ok-targets.ensures)

pub returns-clause-tells : goal.returns-clause-tells
returns-clause-tells g c =
    let s = g.S.Sequence in
    tells_none (record { clock = c.args.clock; targets = c.none-targets.result }) (s.removals c.args.sequence.now) (s.placed c.args.sequence.now) c.args.window.now
    (c.has_deleted.ensures c.if-has_deleted.false)
