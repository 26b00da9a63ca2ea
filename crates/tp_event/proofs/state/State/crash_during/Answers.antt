use Rattle.tp_event.proofs.Common.{◌≡◌, ◌<◌, List, length, Some, inl, refl, sym, ap, subst, slice_get, PeerState, disarming, World, AnswersAt, world_of, answer_of, event_call_of, event_reply_of}
use Rattle.tp_event.proofs.Happenings.{during_meets, entry_named, roomy_crash}
use Rattle.tp_event.proofs.ThereLaws.{sent_below, there_below}
use Rattle.tp_event.proofs.MadeLaws.{ready_for}
use Rattle.tp_event.proofs.MemberLaws.{set_below}
use Rattle.tp_headline.specs.Event as events
use Rattle.tp_event.proofs.state.State.crash_during.Goals as goal

pub disarm_at-requires : goal.disarm_at-requires
disarm_at-requires c = there_below (world_of c.args.self.now) (events.Crash c.args.n (Some (event_call_of c.args.call)) c.args.kept c.args.actor) c.args.n c.requires.may (inl refl)

pub journal_len_at-requires : goal.journal_len_at-requires
journal_len_at-requires c =
    let a = c.disarm_at.ensures in
    subst (λ (l : List PeerState). c.args.n < length l) (sym c.deref.ensures.value)
    (set_below c.args.self.now.peers.items c.disarm_at.new.members.items c.args.n c.args.n (disarming a.before) a.left
    (there_below (world_of c.args.self.now) (events.Crash c.args.n (Some (event_call_of c.args.call)) c.args.kept c.args.actor) c.args.n c.requires.may (inl refl)))

pub answer-answer-requires-clause-peers : goal.answer-answer-requires-clause-peers
answer-answer-requires-clause-peers c = λ m i.
    let a = c.disarm_at.ensures in
    set_below c.args.self.now.peers.items c.disarm_at.new.members.items c.args.n m (disarming a.before) a.left
    (there_below (world_of c.args.self.now) (events.Crash c.args.n (Some (event_call_of c.args.call)) c.args.kept c.args.actor) m c.requires.may i)

pub answer-answer-requires-clause-entries : goal.answer-answer-requires-clause-entries
answer-answer-requires-clause-entries c = λ k i.
    sent_below (world_of c.args.self.now) (events.Crash c.args.n (Some (event_call_of c.args.call)) c.args.kept c.args.actor) k c.requires.may (entry_named c.args.n c.args.kept c.args.actor (event_call_of c.args.call) k i)

pub reopen_at-opened-requires : goal.reopen_at-opened-requires
reopen_at-opened-requires c =
    let a = c.disarm_at.ensures in
    let s = c.answer-answer.ensures.answers in
    set_below c.disarm_at.new.members.items c.answer-answer.new.self.peers.items c.args.n c.args.n s.after (ap (λ (x : World). x.peers) s.left)
    (set_below c.args.self.now.peers.items c.disarm_at.new.members.items c.args.n c.args.n (disarming a.before) a.left
    (there_below (world_of c.args.self.now) (events.Crash c.args.n (Some (event_call_of c.args.call)) c.args.kept c.args.actor) c.args.n c.requires.may (inl refl)))

pub add_if-requires : goal.add_if-requires
add_if-requires c = ready_for c.prepare.result c.is_err-2.result c.prepare.new.self c.answer-answer.new.self.made c.args.change c.is_err-2.ensures.value c.if-is_err-2.false c.prepare.ensures.ready c.answer-answer.ensures.made

pub returns : goal.returns
returns c =
    let w = world_of c.args.self.now in
    let v : World = record w { peers = c.disarm_at.new.members.items } in
    let m = world_of c.answer-answer.new.self in
    let a = c.disarm_at.ensures in
    let answer = answer_of c.answer-answer.result in
    let room = roomy_crash v c.prepare.new.self.items c.reserve.new.self.items c.prepare.ensures.items c.reserve.ensures.items in
    during_meets w v m c.args.n (event_call_of c.args.call) c.args.kept c.journal_len_at.result c.saturating_add-len.result c.args.actor c.args.change answer c.is_made_whole-whole.result c.add_if.new.made.items
    c.reopen_at-opened.new.members.items c.push_reserved.new.self.items (event_reply_of c.reopen_at-opened.result) c.requires.carried c.requires.may c.requires.change
    a (ap (λ (l : List PeerState). record w { peers = l }) a.left)
    (subst (λ (x : World). AnswersAt x c.args.n (event_call_of c.args.call) answer m) room c.answer-answer.ensures.answers)
    (λ p present. c.journal_len_at.ensures p (subst (λ (l : List PeerState). slice_get l c.args.n ≡ Some p) (sym c.deref.ensures.value) present))
    c.saturating_add-len.ensures c.is_made_whole-whole.ensures c.add_if.ensures c.reopen_at-opened.ensures c.push_reserved.ensures.items
