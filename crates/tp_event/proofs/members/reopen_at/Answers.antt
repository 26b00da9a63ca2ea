use Rattle.tp_event.proofs.Common.{event_reply_of}
use Rattle.tp_event.proofs.MemberLaws.{reopened_at}
use Rattle.tp_event.proofs.members.reopen_at.Goals as goal

pub returns : goal.returns
returns c =
    reopened_at c.args.members.now.items c.exchange-member.new.members.items c.exchange-nobody.new.members.items c.args.n c.args.keep c.args.actor (event_reply_of c.reopen-member.result.1) c.exchange-member.result c.nobody.result
    c.reopen-member.result.0 c.exchange-member.ensures.out c.exchange-member.ensures.left c.reopen-member.ensures.len c.reopen-member.ensures.opens c.exchange-nobody.ensures.left
