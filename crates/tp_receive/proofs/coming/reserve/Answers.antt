use Rattle.std.proofs.lemmas.List.{drop_all}
use Rattle.std.proofs.lemmas.Slice.Zip.{length-zip}
use Rattle.tp_receive.proofs.Common.{◌≡◌, ℕ, ◌+◌, ◌∙◌, ◌++◌, ◌∷◌, [], inl, inr, refl, ap, sym, arith, List, ChangeParts, take, drop, length, length-append, take_all, drop_more, slots, zip}
use Rattle.tp_receive.proofs.RunLaws.{slots-most}
use Rattle.tp_receive.proofs.ComingLaws.{AreNoted-first, AreNoted-next, AreNoted-last, slots_pushed, zip_pushed}
use Rattle.tp_receive.proofs.coming.reserve.Goals as goal
use Rattle.tp_receive.proofs.coming.reserve.Goals.{then-slot, else-slot}

pub loop-change-init : goal.loop-change-init
loop-change-init g c = record {
  noted = AreNoted-first (g.R.Replica.applied c.args.replica.now) c.pending.result.now (g.R.Replica.waiting c.args.replica.now) c.args.changes.now c.args.changes.now
      c.in_ok-delivered.delivered c.in_ok-slotted.slotted []
      c.in_ok-delivered.ensures c.in_ok-slotted.ensures c.pending.ensures.pending refl refl;
  long = ap length c.in_ok-marks.ensures.items;
  count = refl;
}

pub overflow_add-reserved : goal.overflow_add-reserved
overflow_add-reserved g c =
    let K = take c.loop-change.change-index c.args.changes.now in
    let M = c.loop-change.marks.items in
    omega (arith, slots-most (zip K M), length-zip K M)

pub loop-change-preserved : goal.loop-change-preserved
loop-change-preserved g c =
    let n = c.loop-change.invariant.noted in
    let K = c.args.changes.now in
    let i = c.loop-change.change-index in
    let P = zip (take i K) c.loop-change.marks.items in
    let Q = zip (take (i + 1) K) c.push.new.self.items in
    let x = c.change-item.result in
    let marked : Q ≡ P ++ (x, c.in_ok-slot.slot) ∷ [] =
    ap (zip (take (i + 1) K)) c.in_ok-push.ensures.items
    ∙ zip_pushed K i x c.loop-change.marks.items c.in_ok-slot.slot c.loop-change-test.true c.loop-change.invariant.long
    ∙ ap (λ (y : ChangeParts). P ++ (y, c.in_ok-slot.slot) ∷ []) (sym c.change-item.is) in
    let next : drop i K ≡ x ∷ drop (i + 1) K = drop_more K i x c.loop-change-test.true ∙ ap (λ (y : ChangeParts). y ∷ drop (i + 1) K) (sym c.change-item.is) in
    record {
      noted = AreNoted-next (g.R.Replica.applied c.args.replica.now) (g.R.Replica.waiting c.args.replica.now) K (drop i K) (drop (i + 1) K) x
          c.loop-change.delivered c.loop-change.slotted c.note.new.delivered c.note.new.slotted P Q c.in_ok-slot.slot
          n next (c.in_ok-slot.ensures n.D n.V n.delivers n.slots) marked;
      long = ap length c.in_ok-push.ensures.items ∙ length-append c.loop-change.marks.items (c.in_ok-slot.slot ∷ []) ∙ ap (λ (m : ℕ). m + 1) c.loop-change.invariant.long;
      count = slots_pushed P Q x c.in_ok-slot.slot c.loop-change.reserved c.if-slot.reserved c.loop-change.invariant.count marked
          (elim c.if-slot.branch [ then-slot w ↦ inl (w.if-slot.true, w.reserved-is) | else-slot w ↦ inr (w.if-slot.false, w.reserved-is) ]);
    }

pub returns : goal.returns
returns g c =
    let K = c.args.changes.now in
    let i = c.loop-change.change-index in
    let M = c.loop-change.marks.items in
    let all : zip (take i K) M ≡ zip K M = ap (λ (l : List ChangeParts). zip l M) (take_all i K c.loop-change-test.false) in
    record {
      long = omega arith;
      marks = sym all ∙ AreNoted-last (g.R.Replica.applied c.args.replica.now) (g.R.Replica.waiting c.args.replica.now) K (drop i K) c.loop-change.delivered c.loop-change.slotted (zip (take i K) M)
          c.loop-change.invariant.noted (drop_all i K c.loop-change-test.false);
      reserved = c.loop-change.invariant.count ∙ ap slots all;
    }
