-- What each event makes of a world that is carried, and which act it is.
use Rattle.tp_headline.proofs.Common.{◌≡◌, inl, inr, ℕ, List, [], ◌∷◌, ap, suc, length, Some, refl, sym, ◌∙◌, subst, ◌++◌, In, Act, Actor, DocId, Hash, ChangeParts, hash_of, heads, no_device, IsDocId, history_none, PeerState, arming, opened_peer, Alone, Deliver, Merge, Calls, IsCall, after_call, heads_at, made_by, noting, WorldInvariant, Event, Start, Fork, Call, Crash, Fail, foreign_bytes_of, AreActs, Happens, IsActOf, Next, MayHappen, Answered, EventReply, reply_to, GoesOn, World, HasPeer, beginning, lists_of, with_entry, with_made, with_new_peer, with_peer, with_read, with_used}
use Rattle.tp_headline.proofs.ActLaws.{no_lists_coherent}
use Rattle.tp_headline.proofs.CallLaws.{as_it_was, none_new, runs_of_steps, same_new, steps_sends}
use Rattle.tp_headline.proofs.CrashMoves.{crash_acts}
use Rattle.tp_headline.proofs.Lasting.{Acts, Carries, Grows, acts_after, acts_before, becomes, grows_on, grows_still, has_list, message_stays, still}
use Rattle.tp_headline.proofs.MakingLaws.{all_was_made, kept_is, left_of, makes, peer_left, would_edit}
use Rattle.tp_headline.proofs.PeerMoves.{act_by, actor_is_used, entry_is_sent, peer_is_armed, peer_joins, text_is_read}
use Rattle.tp_headline.proofs.PlaceLaws.{slice_get-set_same}
use Rattle.tp_peer.specs.PeerStep as peer
use Rattle.tp_headline.specs.declared.error.WorldError.TheVariants as world
use Rattle.tp_headline.specs.Call as call
use Rattle.tp_headline.specs.Headline as headline

-- ---- peers that join

started : (w : World) (actor : Actor) (reply : EventReply) (w' : World) → WorldInvariant w → (In actor w.used → ⊥) → Happens w (Start actor) reply w' → Acts w (Start actor) reply w'
started w actor reply w' h fresh (inl new) = record {
  act = headline.Join;
  carries = becomes w headline.Join w' (with_used (with_new_peer w (opened_peer w.id actor [] no_device)) actor) (new.3 ∙ ap (λ p. with_used (with_new_peer w p) actor) new.1)
      (peer_joins w actor [] headline.Join h fresh history_none (λ c i. absurd i) (λ s is. is));
  is = subst (λ r. IsActOf w (Start actor) r headline.Join) (sym new.2) refl;
}
started w actor reply w' h fresh (inr refused) = record {
  act = headline.Nothing;
  carries = becomes w headline.Nothing w' (with_used w actor) refused.3 (actor_is_used w actor h);
  is = subst (λ r. IsActOf w (Start actor) r headline.Nothing) (sym refused.2) tt;
}

forked : (w : World) (n : ℕ) (actor : Actor) (reply : EventReply) (w' : World) → WorldInvariant w → (In actor w.used → ⊥) → Happens w (Fork n actor) reply w' → Acts w (Fork n actor) reply w'
forked w n actor reply w' h fresh s = elim s.2 [
  | inl new ↦
      let of = s.0 in
      let q = h.peers n of s.1 in
      let fork : PeerState = opened_peer w.id actor of.applied no_device in
      let is : new.0 ≡ fork = new.1.is ∙ ap (λ i. opened_peer i actor of.applied no_device) q.id in
      record {
        act = headline.Fork n;
        carries = becomes w (headline.Fork n) w' (with_used (with_new_peer w fork) actor) (new.3 ∙ ap (λ x. with_used (with_new_peer w x) actor) is)
            (peer_joins w actor of.applied (headline.Fork n) h fresh q.history q.applied (λ l same. (of.applied, has_list w n of s.1, same)));
        is = subst (λ r. IsActOf w (Fork n actor) r (headline.Fork n)) (sym new.2) refl;
      }
  | inr refused ↦ record {
    act = headline.Nothing;
    carries = becomes w headline.Nothing w' (with_used w actor) refused.3 (actor_is_used w actor h);
    is = subst (λ r. IsActOf w (Fork n actor) r headline.Nothing) (sym refused.2) tt;
  }
]

-- ---- calls

-- The act that a call is: a text that was read is a read, and any other answer is what the peer entered and made.
abbrev act_called : peer.Reply → peer.Call → ℕ → List ChangeParts → List ChangeParts → Act
act_called (peer.Text text) peer.Read n new made = headline.Read n text
act_called (peer.Text text) (peer.ReadAt H) n new made = headline.ReadAt n H text
act_called answer call n new made = act_by n new made

-- a peer that was read entered nothing
text_noted : (w v : World) (n : ℕ) (p p' : PeerState) (text : List ℕ) (made : peer.Call) (new whole : List ChangeParts) → HasPeer v n p' → p'.applied ≡ p.applied ++ new → peer.Runs p made (peer.Text text) p'
    → Carries w (act_by n new (made_by made whole)) v → Carries w (act_called (peer.Text text) made n new (made_by made whole)) (with_read v n (heads_at p made) text)
text_noted w v n p p' text peer.Read new whole there grown h on =
    let H = heads p.applied in
    let present : HasPeer v n p = subst (λ x. HasPeer v n x) h.1 there in
    let nothing = subst (λ l. Carries w (act_by n l []) v) (none_new p p' new grown (as_it_was p p' h.1)) on in
    let read = headline.Read n text in
    acts_after w v read (with_read v n H text) nothing (text_is_read v n H text read on.carried (p.applied, has_list v n p present, h.0, refl))
text_noted w v n p p' text (peer.ReadAt H) new whole there grown h on =
    let present : HasPeer v n p = subst (λ x. HasPeer v n x) h.2 there in
    let nothing = subst (λ l. Carries w (act_by n l []) v) (none_new p p' new grown (as_it_was p p' h.2)) on in
    let read = headline.ReadAt n H text in
    acts_after w v read (with_read v n H text) nothing (text_is_read v n H text read on.carried (p.applied, has_list v n p present, h.0, h.1, refl))
text_noted w v n p p' text made new whole there grown h on = absurd h

-- what is noted of an answer
noted : (w v : World) (n : ℕ) (p p' : PeerState) (answer : peer.Reply) (made : peer.Call) (new whole : List ChangeParts) → HasPeer v n p' → p'.applied ≡ p.applied ++ new → peer.PeerStep p made answer p'
    → Carries w (act_by n new (made_by made whole)) v → Carries w (act_called answer made n new (made_by made whole)) (noting v n (heads_at p made) answer)
noted w v n p p' (peer.Generated (Some message)) made new whole there grown s on =
    acts_before w (act_by n new (made_by made whole)) v (with_entry v n message.0) on
    (entry_is_sent v n message.0 on.carried (message_stays p'.applied v.made message.0 (on.carried.peers n p' there).applied (steps_sends p made message p' s)))
noted w v n p p' (peer.Text text) made new whole there grown s on = text_noted w v n p p' text made new whole there grown (runs_of_steps p made (peer.Text text) p' s (λ e. cc)) on
noted w v n p p' answer made new whole there grown s on = on

-- an edit that answered a hash made the change with that hash
made_is : (n : ℕ) (made : peer.Call) (hash : Hash) (p p' : PeerState) (new more whole : List ChangeParts) → peer.Runs p made (peer.Made (Some hash)) p' → p'.applied ≡ p.applied ++ new → whole ≡ new ++ more
    → (c : ChangeParts) × (hash_of c ≡ hash) × (act_by n new (made_by made whole) ≡ headline.Make n c)
made_is n (peer.Edit ss time message) hash p p' new more whole h grown entered =
    let c = h.0 in
    let one : new ≡ c ∷ [] = same_new p p' new (c ∷ []) grown (ap (λ (x : PeerState). x.applied) h.3) in
    (c, sym h.2, ap (λ x. act_by n x whole) one ∙ ap (λ y. act_by n (c ∷ []) y) (entered ∙ ap (λ x. x ++ more) one))
made_is n made hash p p' new more whole h grown entered = absurd h

alone_is : (w : World) (n : ℕ) (made : peer.Call) (answer : peer.Reply) (p p' : PeerState) (new more whole : List ChangeParts) → peer.PeerStep p made answer p' → p'.applied ≡ p.applied ++ new → whole ≡ new ++ more
    → IsActOf w (Call n (Alone made)) (Answered answer) (act_called answer made n new (made_by made whole))
alone_is w n peer.Read (peer.Text text) p p' new more whole s grown entered = refl
alone_is w n (peer.ReadAt H) (peer.Text text) p p' new more whole s grown entered = refl
alone_is w n made (peer.Made (Some hash)) p p' new more whole s grown entered = made_is n made hash p p' new more whole (runs_of_steps p made (peer.Made (Some hash)) p' s (λ e. cc)) grown entered
alone_is w n made answer p p' new more whole s grown entered = tt

alone_replied : (w : World) (k n : ℕ) (made : peer.Call) (answer : peer.Reply) (p p' : PeerState) (new more whole : List ChangeParts) → peer.PeerStep p made answer p' → p'.applied ≡ p.applied ++ new → whole ≡ new ++ more
    → IsActOf w (Call n (Alone made)) (reply_to k answer) (act_called answer made n new (made_by made whole))
alone_replied w k n made (peer.Generated (Some message)) p p' new more whole s grown entered = tt
alone_replied w k n made answer p p' new more whole s grown entered = alone_is w n made answer p p' new more whole s grown entered

merge_replied : (w : World) (k n from : ℕ) (answer : peer.Reply) (a : Act) → IsActOf w (Call n (Merge from)) (reply_to k answer) a
merge_replied w k n from (peer.Generated (Some message)) a = tt
merge_replied w k n from answer a = tt

deliver_replied : (w : World) (k n entry : ℕ) (answer : peer.Reply) (a : Act) → IsActOf w (Call n (Deliver entry)) (reply_to k answer) a
deliver_replied w k n entry (peer.Generated (Some message)) a = tt
deliver_replied w k n entry answer a = tt

call_replied : (w : World) (k n : ℕ) (named : call.EventCall) (made : peer.Call) (answer : peer.Reply) (p p' : PeerState) (new more whole : List ChangeParts) → IsCall w named made → peer.PeerStep p made answer p'
    → p'.applied ≡ p.applied ++ new → whole ≡ new ++ more → IsActOf w (Call n named) (reply_to k answer) (act_called answer made n new (made_by made whole))
call_replied w k n (Alone own) made answer p p' new more whole is s grown entered =
    subst (λ (m : peer.Call). IsActOf w (Call n (Alone own)) (reply_to k answer) (act_called answer m n new (made_by m whole))) (sym is.0)
    (alone_replied w k n own answer p p' new more whole (subst (λ m. peer.PeerStep p m answer p') is.0 s) grown entered)
call_replied w k n (Merge from) made answer p p' new more whole is s grown entered = merge_replied w k n from answer (act_called answer made n new (made_by made whole))
call_replied w k n (Deliver entry) made answer p p' new more whole is s grown entered = deliver_replied w k n entry answer (act_called answer made n new (made_by made whole))

called : (w : World) (n : ℕ) (named : call.EventCall) (reply : EventReply) (w' : World) → WorldInvariant w → MayHappen w (Call n named) → Calls w n named reply w' → Acts w (Call n named) reply w'
called w n named reply w' h may s =
    let p = s.before in
    let p' = s.after in
    let made = s.made in
    let q = h.peers n p s.present in
    let runs = may world.Stopped n p (inl refl) s.present in
    let l = left_of w p made s.answer p' h q runs s.steps in
    let came = all_was_made w named made p h q s.is (λ link bytes is. may world.ForeignChange bytes (ap (λ (x : call.EventCall). foreign_bytes_of (Call n x)) is)) in
    let m = makes w n p made l.tried l.whole l.others h s.present runs l.may l.split came (λ c one edit d i same.
    may world.HashClash c d (would_edit w (Call n named) n named made c refl s.is edit, refl) i same) in
    let v = with_made (with_peer w n p') (made_by made s.kept) in
    let on : Carries w (act_by n l.new (made_by made l.whole)) v = becomes w (act_by n l.new (made_by made l.whole)) v (with_made (with_peer w n p') (made_by made l.whole))
    (ap (λ K. with_made (with_peer w n p') (made_by made K)) (kept_is p made p' s.kept s.keep l s.recovers)) (peer_left w n p made p' h s.present runs l came m) in
    let act = act_called s.answer made n l.new (made_by made l.whole) in
    let next = noted w v n p p' s.answer made l.new l.whole (slice_get-set_same w.peers n p p' s.present) l.applied s.steps on in
    record {
      act = act;
      carries = becomes w act w' (after_call w n (p, p') made s.answer s.kept) s.left next;
      is = subst (λ r. IsActOf w (Call n named) r act) (sym s.replied) (call_replied w (length w.wire) n named made s.answer p p' l.new l.more l.whole s.is s.steps l.applied l.entered);
    }

-- ---- every event

happens_acts : (w : World) (e : Event) (reply : EventReply) (w' : World) → WorldInvariant w → MayHappen w e → Happens w e reply w' → Acts w e reply w'
happens_acts w (Start actor) reply w' h may s = started w actor reply w' h (may world.ActorUsed actor refl) s
happens_acts w (Fork n actor) reply w' h may s = forked w n actor reply w' h (may world.ActorUsed actor refl) s
happens_acts w (Call n named) reply w' h may s = called w n named reply w' h may s
happens_acts w (Crash n during kept actor) reply w' h may s = crash_acts w n during kept actor reply w' h may s
happens_acts w (Fail n kept) reply w' h may s = record {
  act = headline.Nothing;
  carries = becomes w headline.Nothing w' (with_peer w n (arming s.0 kept)) s.3 (peer_is_armed w n s.0 kept h s.1);
  is = subst (λ r. IsActOf w (Fail n kept) r headline.Nothing) (sym s.2) tt;
}

pub next_acts : (w : World) (e : Event) (reply : EventReply) (w' : World) → WorldInvariant w → Next w e reply w' → Acts w e reply w'
next_acts w e reply w' h (inl refused) = record {
  act = headline.Nothing;
  carries = still w w' h refused.left;
  is = subst (λ r. IsActOf w e r headline.Nothing) (sym refused.replied) refl;
}
next_acts w e reply w' h (inr does) = happens_acts w e reply w' h does.may does.happens

-- ---- runs

-- w goes on as w', which is carried, by `count` acts.
pub record Continues (w : World) (count : ℕ) (w' : World) : Type 0 where
  pub grows : Grows w w'
  pub carried : WorldInvariant w'
  pub acts : AreActs w count w'

pub goes_on_acts : (events : List (Event × EventReply)) (w w' : World) → WorldInvariant w → GoesOn w events w' → Continues w (length events) w'
goes_on_acts [] w w' h run = subst (λ x. Continues w 0 x) (sym run) (record { grows = grows_still w; carried = h; acts = record { acts = []; each = refl; steps = refl } })
goes_on_acts (e ∷ events) w w' h run =
    let m = run.0 in
    let first = next_acts w e.0 e.1 m h run.1 in
    let rest = goes_on_acts events m w' first.carries.carried run.2 in
    record {
      grows = grows_on w m w' first.carries.grows rest.grows;
      carried = rest.carried;
      acts = record { acts = first.act ∷ rest.acts.acts; each = ap suc rest.acts.each; steps = (lists_of m, first.carries.step, rest.acts.steps) };
    }

pub beginning_carried : (id : DocId) → IsDocId id → WorldInvariant (beginning id)
beginning_carried id is = record {
  is_id = is;
  coherent = no_lists_coherent;
  limits = λ c i. absurd i;
  used = λ c i. absurd i;
  peers = λ n p i. cc;
  lives = λ n m p q i. cc;
  wire = λ e i. absurd i;
}
