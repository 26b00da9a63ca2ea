use Rattle.tp_receive.proofs.LackingLaws.{KnowsLack-pushed}
use Rattle.tp_receive.proofs.take.let_wait.Goals as goal
use Rattle.tp_receive.proofs.take.let_wait.Goals.{in-Ok, in-Err}

pub returns-after-hold-clause-knows : goal.returns-after-hold-clause-knows
returns-after-hold-clause-knows g c =
    let C = g.R.Replica.applied c.args.replica.now in
    elim c.match-hold.branch [
      | in-Ok w ↦ rw (w.result-is, c.hold.ensures.applied)
          (KnowsLack-pushed C (g.R.Replica.waiting c.args.replica.now) (g.R.Replica.waiting c.hold.new.self) c.args.lacking.now c.push.new.self c.args.change
          c.requires (rw w.in-Ok.is at c.hold.ensures.waiting) c.in_ok-push.ensures)
      | in-Err w ↦ rw w.result-is tt
    ]
