use Rattle.tp_event.proofs.Common.{◌≡◌, ◌<◌, List, length, Some, false, inl, refl, sym, subst, slice_get, PeerState, WireEntry, World, AnswersAt, world_of, answer_of, event_call_of, event_reply_of}
use Rattle.tp_event.proofs.Happenings.{call_meets, roomy}
use Rattle.tp_event.proofs.ThereLaws.{runs_there, sent_below, there_below}
use Rattle.tp_event.proofs.MadeLaws.{ready_for}
use Rattle.tp_headline.specs.Event as events
use Rattle.tp_event.proofs.state.State.call.Goals as goal

pub heads_for-requires : goal.heads_for-requires
heads_for-requires c =
    subst (λ (l : List PeerState). (p : PeerState) × (slice_get l c.args.n ≡ Some p) × (p.stopped ≡ false)) (sym c.deref.ensures.value)
    (runs_there (world_of c.args.self.now) (events.Call c.args.n (event_call_of c.args.call)) c.args.n c.requires.may (inl refl) (inl refl))

pub answer-answer-requires-clause-peers : goal.answer-answer-requires-clause-peers
answer-answer-requires-clause-peers c = λ m i. there_below (world_of c.args.self.now) (events.Call c.args.n (event_call_of c.args.call)) m c.requires.may i

pub answer-answer-requires-clause-entries : goal.answer-answer-requires-clause-entries
answer-answer-requires-clause-entries c = λ k i.
    subst (λ (l : List WireEntry). k < length l) (sym c.reserve.ensures.items) (sent_below (world_of c.args.self.now) (events.Call c.args.n (event_call_of c.args.call)) k c.requires.may i)

pub journal_len_at-before-requires : goal.journal_len_at-before-requires
journal_len_at-before-requires c =
    subst (λ (l : List PeerState). c.args.n < length l) (sym c.deref-2.ensures.value) (there_below (world_of c.args.self.now) (events.Call c.args.n (event_call_of c.args.call)) c.args.n c.requires.may (inl refl))

pub add_if-requires : goal.add_if-requires
add_if-requires c = ready_for c.prepare.result c.is_err-3.result c.prepare.new.self c.answer-answer.new.self.made c.args.change c.is_err-3.ensures.value c.if-is_err-3.false c.prepare.ensures.ready c.answer-answer.ensures.made

pub returns : goal.returns
returns c =
    let w = world_of c.args.self.now in
    let m = world_of c.answer-answer.new.self in
    let answer = answer_of c.answer-answer.result in
    let room = roomy w c.prepare.new.self.items c.reserve.new.self.items c.reserve-2.new.self.items c.prepare.ensures.items c.reserve.ensures.items c.reserve-2.ensures.items in
    call_meets w m c.args.n (event_call_of c.args.call) c.args.change c.in-Ok.heads.items answer c.add_if.new.made.items c.journal_len_at-before.result c.journal_len_at.result c.saturating_sub-grown.result c.is_kept-whole.result
    (event_reply_of c.note.result) (world_of c.note.new.self)
    c.requires.carried c.requires.may c.requires.change
    (λ p present. c.in-Ok.ensures p (subst (λ (l : List PeerState). slice_get l c.args.n ≡ Some p) (sym c.deref.ensures.value) present))
    (λ p present. c.journal_len_at-before.ensures p (subst (λ (l : List PeerState). slice_get l c.args.n ≡ Some p) (sym c.deref-2.ensures.value) present))
    (subst (λ (x : World). AnswersAt x c.args.n (event_call_of c.args.call) answer m) room c.answer-answer.ensures.answers)
    (λ p present. c.journal_len_at.ensures p (subst (λ (l : List PeerState). slice_get l c.args.n ≡ Some p) (sym c.deref-3.ensures.value) present))
    c.saturating_sub-grown.ensures c.is_kept-whole.ensures c.add_if.ensures c.note.ensures
