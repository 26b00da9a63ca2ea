use Rattle.tp_event.proofs.Common.{PeerState, sym, ap, ◌∙◌, member_state}
use Rattle.tp_event.proofs.MemberLaws.{other_stopped}
use Rattle.tp_event.proofs.member.merge_member.Goals as goal

pub returns-in-Stopped : goal.returns-in-Stopped
returns-in-Stopped c = other_stopped c.args.peer.now c.args.other.now (ap (λ (x : PeerState). x.stopped) (sym c.other.view_is ∙ ap member_state c.in-Stopped.is))
