use Rattle.tp_event.proofs.Common.{sym, ◌∙◌, subst, Merge, PeerStep, Refused}
use Rattle.tp_peer.specs.declared.error.PeerError.{PeerError}
use Rattle.tp_event.proofs.MemberLaws.{itself_stopped, takes_from_itself, takes_nothing}
use Rattle.tp_event.proofs.member.merge_nothing.Goals as goal

pub returns-then-is_stopped : goal.returns-then-is_stopped
returns-then-is_stopped c = itself_stopped c.args.peer.now (sym c.is_stopped.ensures ∙ c.if-is_stopped.true)

pub returns-in-Ok : goal.returns-in-Ok
returns-in-Ok c = takes_from_itself c.args.peer.now c.in-Ok.empty _ c.merge.new.self (sym c.is_stopped.ensures ∙ c.if-is_stopped.false) c.in-Ok.ensures.ok c.merge.ensures

pub returns-in-Err : goal.returns-in-Err
returns-in-Err c =
    subst (λ (e : PeerError). PeerStep c.args.peer.now (Merge c.args.peer.now) (Refused e) c.args.peer.now) (sym c.in-Err.ensures.err)
    (takes_nothing c.args.peer.now (sym c.is_stopped.ensures ∙ c.if-is_stopped.false))
