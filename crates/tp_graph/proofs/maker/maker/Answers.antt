use Rattle.tp_graph.proofs.Common.{◌≡◌, ◌==◌, ℕ, ◌-◌, ◌<◌, ◌≤◌, List, false, ap, sym, subst, length, arith, nat_tests, Some, slice_get-there, ChangeParts, IsMaker}
use Rattle.tp_history.proofs.ActorChangesLaws.{own_within, Within, Within-first, Within-up, Within-down, maker-at, maker-some, maker-none}
use Rattle.tp_graph.proofs.maker.maker.Goals as goal

pub loop-low-init : goal.loop-low-init
loop-low-init c = record {
  ordered = omega arith;
  high = omega (arith, c.len-high.ensures);
  bounds = subst (Within c.args.ancestry.now.changes c.changes_by-own.result c.args.id.now 0) (sym c.len-high.ensures) (Within-first c.args.ancestry.now.changes c.changes_by-own.result c.args.id.now);
}

pub end_at-requires : goal.end_at-requires
end_at-requires c =
    own_within c.args.ancestry.now.changes c.args.id.now.actor c.changes_by-own.result _ c.get.result c.changes_by-own.ensures (omega (arith, c.loop-low.invariant.high, c.next_to_look_at-middle.ensures.before)) c.get.ensures

pub loop-low-preserved-then-end_at-id : goal.loop-low-preserved-then-end_at-id
loop-low-preserved-then-end_at-id c =
    let small : c.next_to_look_at-middle.result < length c.changes_by-own.result = omega (arith, c.loop-low.invariant.high, c.next_to_look_at-middle.ensures.before) in
    record {
      ordered = omega (arith, c.next_to_look_at-middle.ensures.before);
      high = c.loop-low.invariant.high;
      bounds = Within-up c.args.ancestry.now.changes c.args.id.now.actor c.changes_by-own.result c.args.id.now c.loop-low.low c.loop-low.high _ c.get.result
          c.changes-changes.ensures.sound c.changes_by-own.ensures small c.get.ensures (rw (← c.end_at.ensures) c.if-end_at-id.true) c.loop-low.invariant.bounds;
    }

pub loop-low-preserved : goal.loop-low-preserved
loop-low-preserved c =
    let small : c.next_to_look_at-middle.result < length c.changes_by-own.result = omega (arith, c.loop-low.invariant.high, c.next_to_look_at-middle.ensures.before) in
    record {
      ordered = c.next_to_look_at-middle.ensures.from;
      high = omega (arith, c.loop-low.invariant.high, c.next_to_look_at-middle.ensures.before);
      bounds = Within-down c.args.ancestry.now.changes c.args.id.now.actor c.changes_by-own.result c.args.id.now c.loop-low.low c.loop-low.high _ c.get.result
          c.changes-changes.ensures.sound c.changes_by-own.ensures small c.get.ensures (rw (← c.end_at.ensures) c.if-end_at-id.false) c.loop-low.invariant.bounds;
    }

pub returns-then-low-len : goal.returns-then-low-len
returns-then-low-len c =
    let met : c.loop-low.high ≡ c.loop-low.low = omega (arith, c.loop-low-test.false, c.loop-low.invariant.ordered) in
    let small : c.loop-low.low < length c.changes_by-own.result = omega (arith, c.if-low-len.true) in
    subst (λ (p : ℕ). IsMaker c.args.ancestry.now.changes c.args.id.now (Some p)) (sym c.get-then-low-len.ensures)
    (maker-some c.args.ancestry.now.changes c.changes_by-own.result c.args.id.now c.loop-low.low c.changes-changes.ensures.sound c.changes_by-own.ensures
    (subst (Within c.args.ancestry.now.changes c.changes_by-own.result c.args.id.now c.loop-low.low) met c.loop-low.invariant.bounds) small)

pub returns-else-low-len : goal.returns-else-low-len
returns-else-low-len c =
    let met : c.loop-low.high ≡ c.loop-low.low = omega (arith, c.loop-low-test.false, c.loop-low.invariant.ordered) in
    let past : length c.changes_by-own.result ≤ c.loop-low.low = omega (arith, c.if-low-len.false) in
    maker-none c.args.ancestry.now.changes c.changes_by-own.result c.args.id.now c.loop-low.low c.changes-changes.ensures.sound c.changes_by-own.ensures
    (subst (Within c.args.ancestry.now.changes c.changes_by-own.result c.args.id.now c.loop-low.low) met c.loop-low.invariant.bounds) past

pub returns-then-has_op : goal.returns-then-has_op
returns-then-has_op c =
    let C = c.args.ancestry.now.changes in
    let count = length c.changes-changes.result.now in
    let same : count ≡ length C = ap (λ (D : List ChangeParts). length D) c.changes-changes.ensures.changes in
    let some : (count == 0) ≡ false = sym c.if-not-is_empty.ensures in
    let small : count - 1 < length C = grind (arith, nat_tests) in
    let last = slice_get-there C (count - 1) small in
    maker-at C c.args.id.now (count - 1) last.0 c.changes-changes.ensures.sound last.1 (c.has_op.ensures c.if-has_op.true last.0 last.1)
