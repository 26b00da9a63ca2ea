use Rattle.tp_snapshot.proofs.Common.{◌≡◌, ◌∙◌, sym, ap, arith, same_actor-same}
use Rattle.std.specs.Prelude.{max}
use Rattle.tp_snapshot.specs.declared.targets.Stretch.{Stretch}
use Rattle.tp_snapshot.proofs.TargetLaws.{raised_covers, apart_order, ends_order}
use Rattle.tp_snapshot.proofs.targets.Stretch.with_raised_end.Goals as goal

pub returns-then-before-self-clause-order : goal.returns-then-before-self-clause-order
returns-then-before-self-clause-order c = ends_order c.args.before.now c.args.self.now c.if-before-self.true c.requires

pub returns-then-is-clause-covers : goal.returns-then-is-clause-covers
returns-then-is-clause-covers c =
    let s = c.args.before.now in
    let t = c.args.self.now in
    let high : s.high ≡ max t.high s.high = omega (arith, c.if-before-self.false) in
    λ x. raised_covers s t _ x (same_actor-same s.actor t.actor (sym c.is.ensures ∙ c.if-is.true)) c.requires
    (ap (λ n. let u : Stretch = record { actor = t.actor; low = t.low; high = n } in u) high)

pub returns-else-is-clause-order : goal.returns-else-is-clause-order
returns-else-is-clause-order c = apart_order c.args.before.now c.args.self.now (sym c.is.ensures ∙ c.if-is.false) c.requires
