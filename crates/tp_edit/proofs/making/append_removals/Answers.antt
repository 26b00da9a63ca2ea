use Rattle.std.proofs.Common.{◌<◌, ◌++◌, ◌∷◌, [], ap, sym, ◌∙◌, append-nil, arith, take, drop}
use Rattle.tp_rga.specs.Shown.{visible_of}
use Rattle.tp_edit.specs.EditRecords.{ids_of, removals_of}
use Rattle.tp_edit.specs.Landings.{ids_through}
use Rattle.tp_edit.proofs.RecordSteps.{grouped_first, grouped_on, grouped_off, grouped_end}
use Rattle.tp_edit.proofs.making.append_removals.Goals as goal
use Rattle.tp_edit.proofs.making.append_removals.Goals.{then-extends, else-extends+in_ok-push}

pub returns-then-splice-eq0 : goal.returns-then-splice-eq0
returns-then-splice-eq0 g c =
    let W = ids_through c.args.actor (ids_of (visible_of (g.S.Sequence.removals c.args.sequence.now) (g.S.Sequence.placed c.args.sequence.now))) c.args.landings.now.done.items in
    let before = c.args.records.now.items in
    sym (ap (λ k. before ++ removals_of (take k (drop c.args.splice.now.at W))) c.if-splice-eq0.true ∙ append-nil before)

pub loop-k-init : goal.loop-k-init
loop-k-init g c =
    let W = ids_through c.args.actor (ids_of (visible_of (g.S.Sequence.removals c.args.sequence.now) (g.S.Sequence.placed c.args.sequence.now))) c.args.landings.now.done.items in
    let s = c.args.splice.now in
    let some : 0 < s.del = omega (arith, c.if-splice-eq0.false) in
    grouped_first W s.at s.del c.id_through-first.result c.args.records.now.items c.requires.in_range some c.id_through-first.ensures

pub loop-k-preserved : goal.loop-k-preserved
loop-k-preserved g c =
    let W = ids_through c.args.actor (ids_of (visible_of (g.S.Sequence.removals c.args.sequence.now) (g.S.Sequence.placed c.args.sequence.now))) c.args.landings.now.done.items in
    let s = c.args.splice.now in
    let before = c.args.records.now.items in
    let first = c.loop-k.first in
    let n = c.loop-k.count in
    let k = c.loop-k.k in
    let y = c.id_through-target.result in
    let now = c.loop-k.records.items in
    elim c.if-extends.branch [
      | then-extends w ↦
          rw (w.records-is, w.first-is, w.count-is)
          (grouped_on W s.at s.del k first n y before now c.requires.in_range c.loop-k-test.true c.id_through-target.ensures (sym c.extends.ensures ∙ w.if-extends.true) c.loop-k.invariant)
      | else-extends+in_ok-push w ↦
          rw (w.records-is, w.first-is, w.count-is)
          (grouped_off W s.at s.del k first n y before now _ c.requires.in_range c.loop-k-test.true c.id_through-target.ensures (sym c.extends.ensures ∙ w.if-extends.false) (w.in_ok-push.ensures.items ∙ ap (λ r. now ++ r ∷ []) w.removal_of.ensures) c.loop-k.invariant)
    ]

pub returns : goal.returns
returns g c =
    let W = ids_through c.args.actor (ids_of (visible_of (g.S.Sequence.removals c.args.sequence.now) (g.S.Sequence.placed c.args.sequence.now))) c.args.landings.now.done.items in
    let s = c.args.splice.now in
    let now = c.loop-k.records.items in
    let put = c.in_ok-push-2.ensures.items ∙ ap (λ r. now ++ r ∷ []) c.removal_of-2.ensures in
    grouped_end W s.at s.del c.loop-k.k c.loop-k.first c.loop-k.count c.args.records.now.items now _ c.requires.in_range c.loop-k-test.false put c.loop-k.invariant
