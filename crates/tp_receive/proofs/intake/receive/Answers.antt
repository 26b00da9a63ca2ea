use Rattle.tp_receive.proofs.Common.{◌≡◌, refl, delivery, with_slots, slots, subst, IsHashSetOf, begin, receiver, OutOfMemory, zip}
use Rattle.tp_receive.proofs.HashLaws.{held_each}
use Rattle.tp_receive.proofs.TurnLaws.{Stops-then}
use Rattle.tp_receive.proofs.TakingLaws.{SomeTurns-begun, Stops-still, has_stopped, is_space, nothing_done}
use Rattle.tp_receive.proofs.intake.receive.Goals as goal

pub returns-in_err-came-clause-outcome : goal.returns-in_err-came-clause-outcome
returns-in_err-came-clause-outcome g c =
    let R = g.R.Replica in
    nothing_done g.K.Keeper.keeps g.K.Keeper.refuses (receiver c.args.keeper.now (R.applied c.args.replica.now) (R.waiting c.args.replica.now)) c.args.changes.items c.from_residual.result c.from_residual.ensures.1

pub returns-in_err-slots-clause-outcome : goal.returns-in_err-slots-clause-outcome
returns-in_err-slots-clause-outcome g c =
    let R = g.R.Replica in
    nothing_done g.K.Keeper.keeps g.K.Keeper.refuses (receiver c.args.keeper.now (R.applied c.args.replica.now) (R.waiting c.args.replica.now)) c.args.changes.items c.from_residual-in_err-slots.result c.from_residual-in_err-slots.ensures.1

pub returns-in_err-lacking-clause-outcome : goal.returns-in_err-lacking-clause-outcome
returns-in_err-lacking-clause-outcome g c =
    let R = g.R.Replica in
    nothing_done g.K.Keeper.keeps g.K.Keeper.refuses (receiver c.args.keeper.now (R.applied c.args.replica.now) (R.waiting c.args.replica.now)) c.args.changes.items c.from_residual-in_err-lacking.result c.from_residual-in_err-lacking.ensures.1

pub returns-in_err-held-clause-outcome : goal.returns-in_err-held-clause-outcome
returns-in_err-held-clause-outcome g c =
    let R = g.R.Replica in
    let k = c.args.keeper.now in
    let C = R.applied c.args.replica.now in
    let W = R.waiting c.args.replica.now in
    let K = c.args.changes.items in
    let marked : zip K c.in_ok-slots.slots.marks.items ≡ with_slots W (delivery C K) = rw c.deref-2.ensures.value at c.in_ok-slots.ensures.marks in
    let counted : c.in_ok-slots.slots.reserved ≡ slots (zip K c.in_ok-slots.slots.marks.items) = rw c.deref-2.ensures.value at c.in_ok-slots.ensures.reserved in
    let t = receiver c.take_all.new.keeper (R.applied c.take_all.new.replica) (R.waiting c.take_all.new.replica) in
    has_stopped g.K.Keeper.keeps g.K.Keeper.refuses (receiver k C W) K t c.from_residual-in_err-held.result OutOfMemory
    (is_space C W c.pending.result.now K (zip K c.in_ok-slots.slots.marks.items) c.in_ok-slots.slots.reserved c.pending.ensures.pending c.pending.ensures.few marked counted c.if-pending-slots.false)
    (Stops-then g.K.Keeper.keeps g.K.Keeper.refuses (begin k C W K) _ OutOfMemory t
    (SomeTurns-begun g.K.Keeper.keeps k C W K (zip K c.in_ok-slots.slots.marks.items) c.new-reported.result.applied.items c.new-reported.result.refused.items _
    marked c.new-reported.ensures.applied c.new-reported.ensures.refused c.in_ok-take_all.ensures.ok)
    (Stops-still g.K.Keeper.keeps g.K.Keeper.refuses _ t.keeper t.applied t.waiting refl refl refl))
    c.from_residual-in_err-held.ensures.1

pub returns-clause-outcome : goal.returns-clause-outcome
returns-clause-outcome g c =
    let R = g.R.Replica in
    let k = c.args.keeper.now in
    let C = R.applied c.args.replica.now in
    let W = R.waiting c.args.replica.now in
    let K = c.args.changes.items in
    let came : IsHashSetOf c.in_ok-came.came.items K = subst (IsHashSetOf c.in_ok-came.came.items) c.deref.ensures.value c.in_ok-came.ensures in
    let marked : zip K c.in_ok-slots.slots.marks.items ≡ with_slots W (delivery C K) = rw c.deref-2.ensures.value at c.in_ok-slots.ensures.marks in
    let counted : c.in_ok-slots.slots.reserved ≡ slots (zip K c.in_ok-slots.slots.marks.items) = rw c.deref-2.ensures.value at c.in_ok-slots.ensures.reserved in
    record {
      space = is_space C W c.pending.result.now K (zip K c.in_ok-slots.slots.marks.items) c.in_ok-slots.slots.reserved c.pending.ensures.pending c.pending.ensures.few marked counted c.if-pending-slots.false;
      run = SomeTurns-begun g.K.Keeper.keeps k C W K (zip K c.in_ok-slots.slots.marks.items) c.new-reported.result.applied.items c.new-reported.result.refused.items _
          marked c.new-reported.ensures.applied c.new-reported.ensures.refused c.in_ok-take_all.ensures.ok;
      ends = record { settled = c.in_ok-take_all.ensures.settled; came = refl };
      held = rw c.pending-3.ensures.pending at (c.in_ok-held.ensures K came);
      once = held_each _ c.pending-3.result.now (R.waiting c.take_all.new.replica) c.in_ok-held.held.items (c.in_ok-held.ensures K came) c.pending-3.ensures.pending c.pending-3.ensures.once;
    }
