use Rattle.tp_snapshot.proofs.Common.{◌≡◌, ◌≤◌, ◌-◌, ◌∙◌, sym, ap, arith, same_actor-same}
use Rattle.std.specs.Prelude.{min}
use Rattle.tp_snapshot.specs.declared.targets.Stretch.{Stretch}
use Rattle.tp_snapshot.proofs.TargetLaws.{next_covers}
use Rattle.tp_snapshot.proofs.targets.Stretch.with.Goals as goal

pub returns : goal.returns
returns c =
    let s = c.args.self.now in
    let id = c.args.id.now in
    let one : s.actor ≡ id.actor = same_actor-same s.actor id.actor (sym c.is.ensures ∙ c.if-not-is.false) in
    let low : s.low - 1 ≤ id.counter = omega (arith, c.saturating_sub.ensures, c.if-saturating_sub-id.false) in
    let high : id.counter - 1 ≤ s.high = omega (arith, c.saturating_sub-else-saturating_sub-id.ensures, c.if-saturating_sub-self.false) in
    λ x. next_covers s _ id x one low high
    (ap (λ n. let t : Stretch = record { actor = s.actor; low = n; high = c.max.result } in t) c.min.ensures
    ∙ ap (λ n. let t : Stretch = record { actor = s.actor; low = min s.low id.counter; high = n } in t) c.max.ensures)
