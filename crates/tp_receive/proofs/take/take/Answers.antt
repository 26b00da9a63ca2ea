use Rattle.tp_receive.proofs.Common.{inr, List, ◌∷◌, ◌∙◌, subst, sym, Hash, ChangeParts, hash_of, intake, GainsOnly, KnowsApart, KnowsLack, Lacks, AllZip-long}
use Rattle.tp_receive.proofs.TurnLaws.{SomeTurns-none, SomeTurns-one, SomeTurns-turn}
use Rattle.tp_receive.proofs.TakingLaws.{OnOk-map, came, meets_entered, meets_refused, meets_held, next_comes, Stops-trying, stops_later, stops_on, turn_unreported, wait_held}
use Rattle.tp_receive.proofs.LackingLaws.{gains_last}
use Rattle.tp_receive.proofs.take.take.Goals as goal

pub returns-in_err-admit-clause-err : goal.returns-in_err-admit-clause-err
returns-in_err-admit-clause-err g c slot P few =
    let R = g.R.Replica in
    let k = c.args.keeper.now in
    let C = R.applied c.args.replica.now in
    let W = R.waiting c.args.replica.now in
    let t = c.args.reported.now.applied.items in
    let r = c.args.reported.now.refused.items in
    let begun = intake k C W ((c.args.change, slot) ∷ P) t r in
    stops_on g.K.Keeper.keeps g.K.Keeper.refuses begun begun c.admit.new.keeper (R.applied c.admit.new.replica) (R.waiting c.admit.new.replica) c.from_residual.result c.in_err-admit.field-0.0
    (SomeTurns-none g.K.Keeper.keeps begun)
    (Stops-trying g.K.Keeper.keeps g.K.Keeper.refuses begun c.args.change (intake k C W P t r) c.in_err-admit.field-0.0 c.admit.new.keeper (R.applied c.admit.new.replica) (R.waiting c.admit.new.replica)
    (inr (next_comes k C W P t r c.args.change slot c.requires.settled)) c.in_err-admit.ensures.stays c.admit.ensures.waiting c.in_err-admit.ensures.err)
    c.from_residual.ensures.1

pub returns-in-Entered-clause-ok : goal.returns-in-Entered-clause-ok
returns-in-Entered-clause-ok g c slot P few =
    let R = g.R.Replica in
    OnOk-map c.settle.result
    (λ run. SomeTurns-turn g.K.Keeper.keeps _ _ _
    (came g.K.Keeper.keeps c.args.keeper.now c.admit.new.keeper c.args.change slot (R.applied c.args.replica.now) (R.applied c.admit.new.replica) (R.waiting c.args.replica.now) (R.waiting c.admit.new.replica) P
    c.args.reported.now.applied.items c.admit.new.reported.applied.items c.args.reported.now.refused.items c.admit.new.reported.refused.items c.requires.settled
    (meets_entered g.K.Keeper.keeps c.args.keeper.now c.admit.new.keeper c.args.change (R.applied c.args.replica.now) (R.applied c.admit.new.replica) (R.waiting c.args.replica.now) (R.waiting c.admit.new.replica) P
    c.args.reported.now.applied.items c.admit.new.reported.applied.items c.args.reported.now.refused.items c.admit.new.reported.refused.items c.admit.ensures.waiting (rw c.in-Entered.is at c.in_ok-admit.ensures.ok)))
    run)
    (c.settle.ensures.ok P)

pub returns-in-Entered-clause-err : goal.returns-in-Entered-clause-err
returns-in-Entered-clause-err g c slot P few =
    let R = g.R.Replica in
    stops_later g.K.Keeper.keeps g.K.Keeper.refuses _ _ c.settle.new.keeper (R.applied c.settle.new.replica) (R.waiting c.settle.new.replica) c.settle.result
    (SomeTurns-one g.K.Keeper.keeps _ _
    (came g.K.Keeper.keeps c.args.keeper.now c.admit.new.keeper c.args.change slot (R.applied c.args.replica.now) (R.applied c.admit.new.replica) (R.waiting c.args.replica.now) (R.waiting c.admit.new.replica) P
    c.args.reported.now.applied.items c.admit.new.reported.applied.items c.args.reported.now.refused.items c.admit.new.reported.refused.items c.requires.settled
    (meets_entered g.K.Keeper.keeps c.args.keeper.now c.admit.new.keeper c.args.change (R.applied c.args.replica.now) (R.applied c.admit.new.replica) (R.waiting c.args.replica.now) (R.waiting c.admit.new.replica) P
    c.args.reported.now.applied.items c.admit.new.reported.applied.items c.args.reported.now.refused.items c.admit.new.reported.refused.items c.admit.ensures.waiting (rw c.in-Entered.is at c.in_ok-admit.ensures.ok))))
    (c.settle.ensures.err P)

pub returns-in-Refused-clause-ok : goal.returns-in-Refused-clause-ok
returns-in-Refused-clause-ok g c slot P few =
    let R = g.R.Replica in
    SomeTurns-one g.K.Keeper.keeps _ _
    (came g.K.Keeper.keeps c.args.keeper.now c.admit.new.keeper c.args.change slot (R.applied c.args.replica.now) (R.applied c.admit.new.replica) (R.waiting c.args.replica.now) (R.waiting c.admit.new.replica) P
    c.args.reported.now.applied.items c.admit.new.reported.applied.items c.args.reported.now.refused.items c.admit.new.reported.refused.items c.requires.settled
    (meets_refused g.K.Keeper.keeps c.args.keeper.now c.admit.new.keeper c.args.change (R.applied c.args.replica.now) (R.applied c.admit.new.replica) (R.waiting c.args.replica.now) (R.waiting c.admit.new.replica) P
    c.args.reported.now.applied.items c.admit.new.reported.applied.items c.args.reported.now.refused.items c.admit.new.reported.refused.items c.admit.ensures.waiting (rw c.in-Refused.is at c.in_ok-admit.ensures.ok)))

pub returns-in-Waits-clause-ok : goal.returns-in-Waits-clause-ok
returns-in-Waits-clause-ok g c slot P few =
    let R = g.R.Replica in
    OnOk-map c.let_wait.result
    (λ held. SomeTurns-one g.K.Keeper.keeps _ _
    (came g.K.Keeper.keeps c.args.keeper.now c.admit.new.keeper c.args.change slot (R.applied c.args.replica.now) (R.applied c.let_wait.new.replica) (R.waiting c.args.replica.now) (R.waiting c.let_wait.new.replica) P
    c.args.reported.now.applied.items c.let_wait.new.reported.applied.items c.args.reported.now.refused.items c.let_wait.new.reported.refused.items c.requires.settled
    (meets_held g.K.Keeper.keeps c.args.keeper.now c.admit.new.keeper c.args.change c.in-Waits.change c.args.reserved (R.applied c.args.replica.now) (R.applied c.admit.new.replica) (R.applied c.let_wait.new.replica)
    (R.waiting c.args.replica.now) (R.waiting c.admit.new.replica) (R.waiting c.let_wait.new.replica) P
    c.args.reported.now.applied.items c.admit.new.reported.applied.items c.let_wait.new.reported.applied.items c.args.reported.now.refused.items c.admit.new.reported.refused.items c.let_wait.new.reported.refused.items
    c.admit.ensures.waiting (rw c.in-Waits.is at c.in_ok-admit.ensures.ok) c.let_wait.ensures.applied c.let_wait.ensures.reported few held)))
    c.let_wait.ensures.ok

pub returns-in-Waits-clause-settled : goal.returns-in-Waits-clause-settled
returns-in-Waits-clause-settled g c =
    let R = g.R.Replica in
    let a = rw c.in-Waits.is at c.in_ok-admit.ensures.ok in
    OnOk-map c.let_wait.result
    (λ held. wait_held (R.applied c.args.replica.now) (R.applied c.let_wait.new.replica) (R.waiting c.args.replica.now) (R.waiting c.let_wait.new.replica) c.args.change c.args.reserved c.admit.new.reported.refused.items c.let_wait.new.reported.refused.items
    (c.let_wait.ensures.applied ∙ a.4) c.requires.settled a.0 (rw (a.1, c.admit.ensures.waiting) at held))
    c.let_wait.ensures.ok

pub returns-in-Waits-clause-err : goal.returns-in-Waits-clause-err
returns-in-Waits-clause-err g c slot P few =
    let R = g.R.Replica in
    let a = rw c.in-Waits.is at c.in_ok-admit.ensures.ok in
    turn_unreported g.K.Keeper.keeps g.K.Keeper.refuses
    (intake c.args.keeper.now (R.applied c.args.replica.now) (R.waiting c.args.replica.now) ((c.args.change, slot) ∷ P) c.args.reported.now.applied.items c.args.reported.now.refused.items)
    c.admit.new.keeper (R.applied c.let_wait.new.replica) (R.waiting c.let_wait.new.replica) c.let_wait.result
    c.let_wait.ensures.err a.3 (c.let_wait.ensures.applied ∙ a.4) (rw c.admit.ensures.waiting at c.let_wait.ensures.stays)

pub forget_alike-requires : goal.forget_alike-requires
forget_alike-requires g c =
    let C = g.R.Replica.applied c.args.replica.now in
    AllZip-long (Lacks C) c.pending.result.now c.args.lacking.now
    (subst (λ (W : List ChangeParts). KnowsLack C W c.args.lacking.now) (sym (c.pending.ensures.pending ∙ c.admit.ensures.waiting)) c.requires.knows)

pub settle-requires-clause-knows : goal.settle-requires-clause-knows
settle-requires-clause-knows g c =
    let C = g.R.Replica.applied c.args.replica.now in
    let D = g.R.Replica.applied c.admit.new.replica in
    let V = g.R.Replica.waiting c.admit.new.replica in
    let a = rw c.in-Entered.is at c.in_ok-admit.ensures.ok in
    let gains : GainsOnly C D c.hash-hash.result = subst (λ (x : Hash). GainsOnly C D x) (sym c.hash-hash.ensures.hash)
    (subst (λ (l : List ChangeParts). GainsOnly C l (hash_of c.args.change)) (sym a.2) (gains_last C c.args.change)) in
    c.forget_lacked-known.ensures.knows C D V gains
    (subst (λ (W : List ChangeParts). KnowsApart C c.hash-hash.result W c.forget_alike.new.self) c.pending.ensures.pending
    (c.forget_alike.ensures C (subst (λ (W : List ChangeParts). KnowsLack C W c.args.lacking.now) (sym (c.pending.ensures.pending ∙ c.admit.ensures.waiting)) c.requires.knows)))

pub settle-requires-clause-waits : goal.settle-requires-clause-waits
settle-requires-clause-waits g c =
    c.forget_lacked-known.ensures.waits (g.R.Replica.applied c.admit.new.replica) (g.R.Replica.waiting c.admit.new.replica) (settle-requires-clause-knows g c)
