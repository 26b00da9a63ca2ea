use Rattle.tp_receive.proofs.Common.{◌≡◌, List, true, false, ap, sym, subst, refl, ◌∙◌, ChangeParts, hash_of, cause, lacks_deps, intake, GainsOnly, slice_get-there}
use Rattle.tp_receive.proofs.TakingLaws.{OnOk-map, stops_for_memory, turn_entered, turn_refused, turn_stopped, turn_unreported, from_ok}
use Rattle.tp_receive.proofs.LackingLaws.{gains_last}
use Rattle.tp_receive.proofs.settle.settle_one.Goals as goal

pub enter_waiting-requires-clause-room : goal.enter_waiting-requires-clause-room
enter_waiting-requires-clause-room g c x get =
    from_ok _ c.ready_waiting.result (c.ready_waiting.ensures.room x (rw (sym c.ready_waiting.ensures.stays.waits) get))
    (rw c.in-Enters.is at c.in_ok-judge.ensures.entry)

pub unreachable-requires : goal.unreachable-requires
unreachable-requires g c =
    let there = slice_get-there (g.R.Replica.waiting c.args.replica.now) c.args.i c.requires.within in
    let waits = rw c.in-Waits.is at (c.in_ok-judge.ensures.ok (cause (g.R.Replica.applied c.args.replica.now) there.0) (c.ready_waiting.ensures.answers there.0 there.1)) in
    let no : true ≡ false = sym (ap lacks_deps waits) ∙ c.requires.ready there.0 there.1 in
    cc

pub returns-in_err-judge-clause-err : goal.returns-in_err-judge-clause-err
returns-in_err-judge-clause-err g c P =
    let R = g.R.Replica in
    stops_for_memory g.K.Keeper.keeps g.K.Keeper.refuses
    (intake c.args.keeper.now (R.applied c.args.replica.now) (R.waiting c.args.replica.now) P c.args.reported.now.applied.items c.args.reported.now.refused.items)
    c.args.keeper.now (R.applied c.ready_waiting.new.self) (R.waiting c.ready_waiting.new.self) c.from_residual.result c.in_err-judge.field-0.0
    c.in_err-judge.ensures.err refl c.ready_waiting.ensures.stays.entered c.ready_waiting.ensures.stays.waits c.from_residual.ensures.1

pub returns-in-Enters-clause-ok : goal.returns-in-Enters-clause-ok
returns-in-Enters-clause-ok g c P =
    let R = g.R.Replica in
    turn_entered g.K.Keeper.keeps c.args.keeper.now c.enter_waiting.new.keeper (R.applied c.args.replica.now) (R.applied c.enter_waiting.new.replica)
    (R.waiting c.args.replica.now) (R.waiting c.enter_waiting.new.replica) c.args.i P
    c.args.reported.now.applied.items c.enter_waiting.new.reported.applied.items c.args.reported.now.refused.items c.enter_waiting.new.reported.refused.items c.enter_waiting.result
    c.requires (rw (c.ready_waiting.ensures.stays.waits, c.ready_waiting.ensures.stays.entered) at c.enter_waiting.ensures.ok)
    (rw c.ready_waiting.ensures.stays.waits at c.enter_waiting.ensures.out)

pub returns-in-Enters-clause-err : goal.returns-in-Enters-clause-err
returns-in-Enters-clause-err g c P =
    let R = g.R.Replica in
    turn_stopped g.K.Keeper.keeps g.K.Keeper.refuses c.args.keeper.now c.enter_waiting.new.keeper (R.applied c.args.replica.now) (R.applied c.enter_waiting.new.replica)
    (R.waiting c.args.replica.now) (R.waiting c.enter_waiting.new.replica) c.args.i P c.args.reported.now.applied.items c.args.reported.now.refused.items c.enter_waiting.result
    c.requires (rw (c.ready_waiting.ensures.stays.waits, c.ready_waiting.ensures.stays.entered) at c.enter_waiting.ensures.err)
    (rw c.ready_waiting.ensures.stays.entered at c.enter_waiting.ensures.applied) (rw c.ready_waiting.ensures.stays.waits at c.enter_waiting.ensures.waiting)

pub returns-in-Refused-clause-ok : goal.returns-in-Refused-clause-ok
returns-in-Refused-clause-ok g c P =
    let R = g.R.Replica in
    turn_refused g.K.Keeper.keeps c.args.keeper.now (R.applied c.args.replica.now) (R.applied c.refuse_waiting.new.replica)
    (R.waiting c.args.replica.now) (R.waiting c.refuse_waiting.new.replica) c.args.i c.in-Refused.error P
    c.args.reported.now.applied.items c.refuse_waiting.new.reported.applied.items c.args.reported.now.refused.items c.refuse_waiting.new.reported.refused.items c.refuse_waiting.result
    c.requires (λ x get. rw c.in-Refused.is at (c.in_ok-judge.ensures.ok (cause (R.applied c.args.replica.now) x) (c.ready_waiting.ensures.answers x get)))
    (rw c.ready_waiting.ensures.stays.waits at c.refuse_waiting.ensures.ok) c.refuse_waiting.ensures.reported
    (c.refuse_waiting.ensures.applied ∙ c.ready_waiting.ensures.stays.entered) (rw c.ready_waiting.ensures.stays.waits at c.refuse_waiting.ensures.out)

pub returns-in-Refused-clause-err : goal.returns-in-Refused-clause-err
returns-in-Refused-clause-err g c P =
    let R = g.R.Replica in
    turn_unreported g.K.Keeper.keeps g.K.Keeper.refuses
    (intake c.args.keeper.now (R.applied c.args.replica.now) (R.waiting c.args.replica.now) P c.args.reported.now.applied.items c.args.reported.now.refused.items)
    c.args.keeper.now (R.applied c.refuse_waiting.new.replica) (R.waiting c.refuse_waiting.new.replica) c.refuse_waiting.result
    c.refuse_waiting.ensures.err refl (c.refuse_waiting.ensures.applied ∙ c.ready_waiting.ensures.stays.entered) (rw c.ready_waiting.ensures.stays.waits at c.refuse_waiting.ensures.waiting)

pub returns-in-Enters-clause-gains : goal.returns-in-Enters-clause-gains
returns-in-Enters-clause-gains g c x get =
    let C = g.R.Replica.applied c.args.replica.now in
    let entered = rw (c.ready_waiting.ensures.stays.waits, c.ready_waiting.ensures.stays.entered) at c.enter_waiting.ensures.ok in
    OnOk-map c.enter_waiting.result (λ a. subst (λ (D : List ChangeParts). GainsOnly C D (hash_of x)) (sym a.2) (gains_last C x)) (entered x get)
