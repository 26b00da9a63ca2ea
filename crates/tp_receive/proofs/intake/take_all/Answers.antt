use Rattle.tp_receive.proofs.Common.{◌≡◌, ◌+◌, ◌<◌, ◌∷◌, inl, inr, ap, sym, subst, ◌∙◌, arith, drop, length, List, Bool, ChangeParts, SomeTurns, Stops, intake, receiver, zip}
use Rattle.tp_receive.proofs.TurnLaws.{SomeTurns-then}
use Rattle.tp_receive.proofs.ComingLaws.{slots_after, slots_there, zip_next}
use Rattle.tp_receive.proofs.TakingLaws.{stops_on}
use Rattle.tp_receive.proofs.intake.take_all.Goals as goal
use Rattle.tp_receive.proofs.intake.take_all.Goals.{then-slot, else-slot}

pub loop-change-init : goal.loop-change-init
loop-change-init g c =
    let all = c.into_iter-change-iterator.ensures.into_iter_gives.0 in
    let M = c.args.slots.now.marks.items in
    record {
      id = c.settle.ensures.id;
      run = rw all (c.in_ok-settle.ensures.ok (zip c.args.changes.items M));
      settled = c.in_ok-settle.ensures.settled;
      knows = c.in_ok-settle.ensures.knows;
      count = rw all c.requires.count;
      long = omega (arith, c.requires.long, ap length all);
    }

pub index-slot-requires : goal.index-slot-requires
index-slot-requires g c = omega (arith, c.loop-change.invariant.long, ap length c.in-Some.ensures.steps.0)

pub overflow_sub-reserved : goal.overflow_sub-reserved
overflow_sub-reserved g c =
    let M = c.args.slots.now.marks.items in
    let i = c.loop-change.place in
    let within : i < length M = omega (arith, c.loop-change.invariant.long, ap length c.in-Some.ensures.steps.0) in
    slots_there (zip c.loop-change.change-iterator.rest.items (drop i M)) (zip c.next.new.self.rest.items (drop (i + 1) M)) c.in-Some.change c.index-slot.result.now c.loop-change.reserved c.loop-change.invariant.count
    (zip_next c.loop-change.change-iterator.rest.items c.next.new.self.rest.items M i c.in-Some.change c.index-slot.result.now c.in-Some.ensures.steps.0 within c.index-slot.ensures) c.if-slot.true

pub overflow_add-place : goal.overflow_add-place
overflow_add-place g c = omega (arith, c.loop-change.invariant.long, c.requires.long, ap length c.in-Some.ensures.steps.0)

pub loop-change-preserved : goal.loop-change-preserved
loop-change-preserved g c =
    let R = g.R.Replica in
    let M = c.args.slots.now.marks.items in
    let i = c.loop-change.place in
    let K = c.loop-change.change-iterator.rest.items in
    let rest = c.next.new.self.rest.items in
    let slot = c.index-slot.result.now in
    let within : i < length M = omega (arith, c.loop-change.invariant.long, ap length c.in-Some.ensures.steps.0) in
    let next : zip K (drop i M) ≡ (c.in-Some.change, slot) ∷ zip rest (drop (i + 1) M) = zip_next K rest M i c.in-Some.change slot c.in-Some.ensures.steps.0 within c.index-slot.ensures in
    let few = slots_after (zip K (drop i M)) (zip rest (drop (i + 1) M)) c.in-Some.change slot c.loop-change.reserved c.if-slot.reserved c.loop-change.invariant.count next
    (elim c.if-slot.branch [ then-slot w ↦ inl (w.if-slot.true, w.reserved-is) | else-slot w ↦ inr (w.if-slot.false, w.reserved-is) ]) in
    record {
      id = c.take.ensures.id ∙ c.loop-change.invariant.id;
      run = SomeTurns-then g.K.Keeper.keeps _ _ _ c.loop-change.invariant.run
          (subst (λ (P : List (ChangeParts × Bool)). SomeTurns g.K.Keeper.keeps
          (intake c.loop-change.keeper (R.applied c.loop-change.replica) (R.waiting c.loop-change.replica) P c.loop-change.reported.applied.items c.loop-change.reported.refused.items)
          (intake c.take.new.keeper (R.applied c.take.new.replica) (R.waiting c.take.new.replica) (zip rest (drop (i + 1) M)) c.take.new.reported.applied.items c.take.new.reported.refused.items))
          (sym next) (c.in_ok-take.ensures.ok slot (zip rest (drop (i + 1) M)) few));
      settled = c.in_ok-take.ensures.settled;
      knows = c.in_ok-take.ensures.knows;
      count = few;
      long = omega (arith, c.loop-change.invariant.long, ap length c.in-Some.ensures.steps.0);
    }

pub returns-in_err-take-clause-err : goal.returns-in_err-take-clause-err
returns-in_err-take-clause-err g c =
    let R = g.R.Replica in
    let M = c.args.slots.now.marks.items in
    let i = c.loop-change.place in
    let K = c.loop-change.change-iterator.rest.items in
    let rest = c.next.new.self.rest.items in
    let slot = c.index-slot.result.now in
    let within : i < length M = omega (arith, c.loop-change.invariant.long, ap length c.in-Some.ensures.steps.0) in
    let next : zip K (drop i M) ≡ (c.in-Some.change, slot) ∷ zip rest (drop (i + 1) M) = zip_next K rest M i c.in-Some.change slot c.in-Some.ensures.steps.0 within c.index-slot.ensures in
    let few = slots_after (zip K (drop i M)) (zip rest (drop (i + 1) M)) c.in-Some.change slot c.loop-change.reserved c.if-slot.reserved c.loop-change.invariant.count next
    (elim c.if-slot.branch [ then-slot w ↦ inl (w.if-slot.true, w.reserved-is) | else-slot w ↦ inr (w.if-slot.false, w.reserved-is) ]) in
    stops_on g.K.Keeper.keeps g.K.Keeper.refuses _ _ c.take.new.keeper (R.applied c.take.new.replica) (R.waiting c.take.new.replica) c.from_residual-in_err-take.result c.in_err-take.field-0.0
    c.loop-change.invariant.run
    (subst (λ (P : List (ChangeParts × Bool)). Stops g.K.Keeper.keeps g.K.Keeper.refuses
    (intake c.loop-change.keeper (R.applied c.loop-change.replica) (R.waiting c.loop-change.replica) P c.loop-change.reported.applied.items c.loop-change.reported.refused.items)
    c.in_err-take.field-0.0 (receiver c.take.new.keeper (R.applied c.take.new.replica) (R.waiting c.take.new.replica)))
    (sym next) (c.in_err-take.ensures.err slot (zip rest (drop (i + 1) M)) few))
    c.from_residual-in_err-take.ensures.1
