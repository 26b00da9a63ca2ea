use Rattle.tp_peer.proofs.Common.{inl, inr}
use Rattle.tp_call.proofs.ReplyLaws.{made_or_refused}
use Rattle.tp_call.proofs.call.Reply.into_made.Goals as goal

pub unreachable-requires : goal.unreachable-requires
unreachable-requires c = elim (made_or_refused c.args.self c.requires) [ inl x ↦ c.in_default.not-Made x.0 x.1 | inr x ↦ c.in_default.not-Refused x.0 x.1 ]
