use Rattle.tp_sync.proofs.Common.{inr, subst, SyncError, Exchanged, SyncParts, new_sync_state, Exchanges, PassesMessage, RefusesReply, ExchangeStops, side, Replies}
use Rattle.tp_sync.proofs.ExchangeLaws.{if_err, if_ok}
use Rattle.tp_sync.proofs.exchanging.exchange_from.Goals as goal

pub returns-in-Ok-clause-ok : goal.returns-in-Ok-clause-ok
returns-in-Ok-clause-ok g c =
    let a = c.args.a.now in
    let b = c.args.b.now in
    let asked = side c.speak.new.to c.speak.new.theirs in
    let first : PassesMessage (side a new_sync_state) c.speak.new.ours (side b new_sync_state) asked c.in-Ok._begun.applied =
    subst (λ (s : SyncParts). PassesMessage (side a s) c.speak.new.ours (side b new_sync_state) asked c.in-Ok._begun.applied) c.requires.ours
    (subst (λ (t : SyncParts). PassesMessage (side a c.args.ours.now) c.speak.new.ours (side b t) asked c.in-Ok._begun.applied) c.requires.theirs c.in-Ok.ensures.passes) in
    if_ok (λ (r : Exchanged). Replies (side a c.speak.new.ours) asked c.reply.new.a c.reply.new.b r)
    (λ (r : Exchanged). Exchanges a b c.reply.new.a c.reply.new.b r)
    c.reply.result (λ r w. record { declared = c.speak.new.ours; asked = asked; begun = c.in-Ok._begun.applied; first = first; replies = w }) c.reply.ensures.ok

pub returns-in-Ok-clause-err : goal.returns-in-Ok-clause-err
returns-in-Ok-clause-err g c =
    let a = c.args.a.now in
    let b = c.args.b.now in
    let asked = side c.speak.new.to c.speak.new.theirs in
    let first : PassesMessage (side a new_sync_state) c.speak.new.ours (side b new_sync_state) asked c.in-Ok._begun.applied =
    subst (λ (s : SyncParts). PassesMessage (side a s) c.speak.new.ours (side b new_sync_state) asked c.in-Ok._begun.applied) c.requires.ours
    (subst (λ (t : SyncParts). PassesMessage (side a c.args.ours.now) c.speak.new.ours (side b t) asked c.in-Ok._begun.applied) c.requires.theirs c.in-Ok.ensures.passes) in
    if_err (λ (e : SyncError). RefusesReply (side a c.speak.new.ours) asked e c.reply.new.a c.reply.new.b)
    (λ (e : SyncError). ExchangeStops a b c.reply.new.a c.reply.new.b e)
    c.reply.result (λ e w. inr (record { declared = c.speak.new.ours; asked = asked; begun = c.in-Ok._begun.applied; first = first; fails = w })) c.reply.ensures.err
