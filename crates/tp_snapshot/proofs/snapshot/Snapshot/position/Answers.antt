use Rattle.tp_snapshot.proofs.Common.{◌∙◌, Some, sym, ap, length, take, option_map, shown_by}
use Rattle.tp_snapshot.proofs.SnapshotLaws.{before_none, before_index}
use Rattle.tp_snapshot.proofs.snapshot.Snapshot.position.Goals as goal

pub returns-then-not-has : goal.returns-then-not-has
returns-then-not-has g c =
    let s = g.S.Sequence in
    sym (before_none c.args.self.now.clock (s.removals c.args.sequence.now) (s.placed c.args.sequence.now) c.args.id.now (sym c.has.ensures ∙ c.if-not-has.true))

pub returns-in-Some : goal.returns-in-Some
returns-in-Some g c =
    let s = g.S.Sequence in
    let R = s.removals c.args.sequence.now in
    let L = s.placed c.args.sequence.now in
    let K = c.args.self.now.clock in
    ap Some c.count_before.ensures
    ∙ ap (option_map (λ k. length (shown_by K R (take k L)))) c.in-Some.ensures
    ∙ sym (before_index K R L c.args.id.now (sym c.has.ensures ∙ c.if-not-has.false))

pub returns-in-None : goal.returns-in-None
returns-in-None g c =
    let s = g.S.Sequence in
    let R = s.removals c.args.sequence.now in
    let L = s.placed c.args.sequence.now in
    let K = c.args.self.now.clock in
    ap (option_map (λ k. length (shown_by K R (take k L)))) c.in-None.ensures
    ∙ sym (before_index K R L c.args.id.now (sym c.has.ensures ∙ c.if-not-has.false))
