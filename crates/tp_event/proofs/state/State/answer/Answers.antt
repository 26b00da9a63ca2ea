use Rattle.tp_event.proofs.Common.{◌<◌, inl, inr, refl, sym, subst, slice_get_read, In, Call, AnswersAt, world_of, event_call_of}
use Rattle.tp_call.specs.Calls as own
use Rattle.tp_headline.specs.Event as events
use Rattle.tp_event.proofs.Happenings.{deliver_answers}
use Rattle.tp_event.proofs.state.State.answer.Goals as goal

pub call_at-requires : goal.call_at-requires
call_at-requires c = c.requires.peers c.args.n (inl refl)

pub merge_at-requires-clause-into : goal.merge_at-requires-clause-into
merge_at-requires-clause-into c = c.requires.peers c.args.n (inl refl)

pub merge_at-requires-clause-from : goal.merge_at-requires-clause-from
merge_at-requires-clause-from c = c.requires.peers c.in-Merge.from (inr (subst (λ (x : Call). In c.in-Merge.from (events.named_by (event_call_of x))) (sym c.in-Merge.is) (inl refl)))

pub index-sent-requires : goal.index-sent-requires
index-sent-requires c = subst (λ len. c.in-Deliver.entry < len) (sym c.args.self.now.wire.ok.0) (c.requires.entries c.in-Deliver.entry (subst (λ (x : Call). In c.in-Deliver.entry (events.wire_entries_of (events.Call c.args.n (event_call_of x)))) (sym c.in-Deliver.is) (inl refl)))

pub receive_at-requires : goal.receive_at-requires
receive_at-requires c = c.requires.peers c.args.n (inl refl)

pub returns-in-Deliver-clause-answers : goal.returns-in-Deliver-clause-answers
returns-in-Deliver-clause-answers c =
    let w = world_of c.args.self.now in
    let k = c.in-Deliver.entry in
    let below = c.requires.entries k (subst (λ (x : Call). In k (events.wire_entries_of (events.Call c.args.n (event_call_of x)))) (sym c.in-Deliver.is) (inl refl)) in
    subst (λ (x : Call). AnswersAt w c.args.n (event_call_of x) (own.reply_of c.receive_at.result) (record w { peers = c.receive_at.new.members.items })) (sym c.in-Deliver.is)
    (deliver_answers w c.args.n k c.index-sent.result.now _ c.receive_at.new.members.items (slice_get_read w.wire _ k c.index-sent.result.now refl below c.index-sent.ensures) c.receive_at.ensures)
