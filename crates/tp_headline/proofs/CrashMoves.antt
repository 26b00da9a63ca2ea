-- What a crash makes of a peer of a world.
use Rattle.tp_headline.proofs.Common.{◌≡◌, ◌⊎◌, inl, inr, ℕ, ◌+◌, ◌<◌, ◌≤◌, nat_le, List, [], ◌∷◌, ◌++◌, length, take, drop, true, false, Option, Some, None, refl, sym, ap, ◌∙◌, subst, append-nil, arith, take_all, drop-append_seam, take-append-add, In, AllIn, In-append, In-last, In-left, never, truth, Act, Actor, DocId, ChangeParts, no_device, IsDocId, record_of, bytes_of_records, journal, IsHistory, Recovers, recovers_cut, recovers_once, PeerState, opened_peer, history_grows, Alone, Merge, Deliver, IsCall, made_by, WorldInvariant, IsCarried, ComesBack, Crashes, KeepsWhole, MakesWhole, MayBe, MayEnter, kept_bytes, made_during, stopped_with, Crash, foreign_bytes_of, Happens, IsActOf, Next, MayHappen, EventReply, World, HasPeer, with_made, with_peer, with_used}
use Rattle.std.proofs.lemmas.Bool.Decides.{nat_tests}
use Rattle.tp_headline.specs.Call.{EventCall}
use Rattle.tp_headline.proofs.CallLaws.{Enters, may_enter, steps_enter}
use Rattle.tp_headline.specs.Headline.{Nothing}
use Rattle.tp_headline.proofs.Lasting.{Acts, Carries, Grows, begins-In}
use Rattle.tp_headline.proofs.MakingLaws.{Makes, all_was_made, makes, makes_none, nothing_left, one_cut, recovers_all, would_edit}
use Rattle.tp_headline.proofs.PeerMoves.{IsMaking, LivesOn, Moves, act_by, enters_by, moves_grow, peer_changes}
use Rattle.tp_headline.proofs.PlaceLaws.{slice_get-set_same}
use Rattle.tp_peer.specs.PeerState.{gained_changes}
use Rattle.tp_peer.specs.PeerStep as peer
use Rattle.tp_headline.specs.declared.error.WorldError.TheVariants as world

-- ---- what the journal recovers to

-- The bytes that the journal of p kept recover to its changes and those of `new` whose records are whole.
pub record Recovered (p at : PeerState) (kept : ℕ) (new : List ChangeParts) : Type 0 where
  pub whole : List ChangeParts
  pub others : List ChangeParts
  pub split : new ≡ whole ++ others
  pub within : length (bytes_of_records whole) ≤ kept
  pub torn : (c : ChangeParts) (more : List ChangeParts) → others ≡ c ∷ more → kept < length (bytes_of_records (whole ++ c ∷ []))
  pub keep : ℕ
  pub recovers : Recovers (kept_bytes p at kept) p.id (p.applied ++ whole) keep

-- the records of `new` were appended
recovered_cut : (p at : PeerState) (kept : ℕ) (new : List ChangeParts) → IsDocId p.id → p.journal ≡ journal p.id p.applied → at.journal ≡ p.journal ++ bytes_of_records new
    → IsHistory (p.applied ++ new) → Recovered p at kept new
recovered_cut p at kept new is own appended history =
    let cut = recovers_cut p.id p.applied new kept is history in
    let bytes : kept_bytes p at kept ≡ journal p.id p.applied ++ take kept (bytes_of_records new) =
    ap (λ l. take (length p.journal + kept) l) appended
    ∙ take-append-add p.journal (bytes_of_records new) kept
    ∙ ap (λ l. l ++ take kept (bytes_of_records new)) own in
    record {
      whole = cut.whole;
      others = cut.are_whole.others;
      split = cut.are_whole.split;
      within = cut.are_whole.within;
      torn = cut.are_whole.torn;
      keep = length (journal p.id (p.applied ++ cut.whole));
      recovers = subst (λ b. Recovers b p.id (p.applied ++ cut.whole) (length (journal p.id (p.applied ++ cut.whole)))) (sym bytes) cut.recovers;
    }

-- What the journal of p recovers to between calls: its changes, and those that were made and have whole records in it.
-- A peer that runs has just its changes there.
pub record FoundBetween (w : World) (p : PeerState) (kept : ℕ) : Type 0 where
  pub whole : List ChangeParts
  pub were_made : AllIn whole w.made
  pub none : p.stopped ≡ false → whole ≡ []
  pub keep : ℕ
  pub recovers : Recovers (kept_bytes p p kept) p.id (p.applied ++ whole) keep

found_in : (w : World) (p : PeerState) (kept keep : ℕ) (whole : List ChangeParts) → AllIn whole w.made → (p.stopped ≡ false → whole ≡ []) → Recovers p.journal p.id (p.applied ++ whole) keep
    → FoundBetween w p kept
found_in w p kept keep whole were_made none r =
    let bytes : kept_bytes p p kept ≡ p.journal = take_all (length p.journal + kept) p.journal (omega arith) in
    record { whole = whole; were_made = were_made; none = none; keep = keep; recovers = subst (λ b. Recovers b p.id (p.applied ++ whole) keep) (sym bytes) r }

pub found_between : (w : World) (p : PeerState) (kept : ℕ) → WorldInvariant w → IsCarried w p → FoundBetween w p kept
found_between w p kept h q = elim (truth p.stopped) [
  | inl stopped ↦ let d = q.dead stopped in found_in w p kept d.keep d.more d.were_made (λ runs. never stopped runs) d.recovers
  | inr runs ↦
      let keep = length (journal p.id p.applied) in
      let all = recovers_all p.id p.applied (subst IsDocId (sym q.id) h.is_id) q.history in
      found_in w p kept keep [] (λ c i. absurd i) (λ r. refl) (subst (λ b. Recovers b p.id (p.applied ++ []) keep) (sym (q.live runs).journal) (subst (λ C. Recovers (journal p.id p.applied) p.id C keep) (sym (append-nil p.applied)) all))
]

-- ---- the peer afterwards

-- it runs again with the changes, or has stopped with them
abbrev pub IsBack : PeerState → Actor → List ℕ → List ChangeParts → PeerState → Type 0
IsBack p actor bytes C p' = (p' ≡ opened_peer p.id actor C no_device) ⊎ (p' ≡ stopped_with p bytes C)

same_opened : (i j : DocId) (a : Actor) (C D : List ChangeParts) → i ≡ j → C ≡ D → opened_peer i a C no_device ≡ opened_peer j a D no_device
same_opened i j a C D e f = cc

is_back : (p p' : PeerState) (bytes : List ℕ) (C : List ChangeParts) (keep : ℕ) (actor : Actor) (reply : EventReply) → Recovers bytes p.id C keep → ComesBack p bytes actor reply p' → IsBack p actor bytes C p'
is_back p p' bytes C keep actor reply r (inl again) =
    let b = again.1 in
    let once = recovers_once bytes b.id p.id b.applied C b.keep keep b.recovers r in
    inl (b.is ∙ same_opened b.id p.id actor b.applied C once.0 once.1)
is_back p p' bytes C keep actor reply r (inr down) =
    let b = down.2 in
    inr (b.left ∙ ap (λ D. stopped_with p bytes D) (recovers_once bytes p.id p.id b.changes C b.keep keep b.recovers r).1)

back_applied : (p p' : PeerState) (bytes : List ℕ) (C : List ChangeParts) (actor : Actor) → IsBack p actor bytes C p' → p'.applied ≡ C
back_applied p p' bytes C actor (inl is) = ap (λ (x : PeerState). x.applied) is
back_applied p p' bytes C actor (inr is) = ap (λ (x : PeerState). x.applied) is

-- what was recovered is what the peer that comes back gained
came_back : (p p' : PeerState) (bytes : List ℕ) (whole : List ChangeParts) (keep : ℕ) (actor : Actor) (reply : EventReply) → Recovers bytes p.id (p.applied ++ whole) keep → ComesBack p bytes actor reply p'
    → p'.applied ≡ p.applied ++ whole
came_back p p' bytes whole keep actor reply r comes =
    let C = p.applied ++ whole in
    back_applied p p' bytes C actor (is_back p p' bytes C keep actor reply r comes)

pub gained_back : (p p' : PeerState) (bytes : List ℕ) (whole : List ChangeParts) (keep : ℕ) (actor : Actor) (reply : EventReply) → Recovers bytes p.id (p.applied ++ whole) keep → ComesBack p bytes actor reply p'
    → gained_changes p p' ≡ whole
gained_back p p' bytes whole keep actor reply r comes = ap (drop (length p.applied)) (came_back p p' bytes whole keep actor reply r comes) ∙ drop-append_seam p.applied whole

-- it is carried, where what was recovered was made, and nothing by its actor
back_is_carried : (w w' : World) (p p' : PeerState) (bytes : List ℕ) (C : List ChangeParts) (keep : ℕ) (actor : Actor) → IsCarried w p → Grows w w' → Recovers bytes p.id C keep → AllIn C w'.made
    → In actor w'.used → ((c : ChangeParts) → In c w'.made → c.actor ≡ actor → ⊥) → IsBack p actor bytes C p' → IsCarried w' p'
back_is_carried w w' p p' bytes C keep actor q grows r made used none (inl is) = subst (λ x. IsCarried w' x) (sym is) (record {
  id = q.id ∙ sym grows.id;
  history = r.history;
  applied = made;
  waiting = λ c i. absurd i;
  used = used;
  calm = refl;
  live = λ runs. record { journal = refl; own = λ c i by. absurd (none c i by) };
  dead = λ stopped. cc;
})
back_is_carried w w' p p' bytes C keep actor q grows r made used none (inr is) = subst (λ x. IsCarried w' x) (sym is) (record {
  id = q.id ∙ sym grows.id;
  history = r.history;
  applied = made;
  waiting = λ c i. absurd i;
  used = grows.used p.actor q.used;
  calm = refl;
  live = λ runs. cc;
  dead = λ stopped. record {
    more = [];
    few = omega arith;
    were_made = λ c i. absurd i;
    keep = keep;
    recovers = subst (λ D. Recovers bytes p.id D keep) (sym (append-nil C)) r;
  };
})

-- a life ends
new_life : (w : World) (p p' : PeerState) (bytes : List ℕ) (C : List ChangeParts) (actor : Actor) → (In actor w.used → ⊥) → IsBack p actor bytes C p' → LivesOn w p p'
new_life w p p' bytes C actor fresh (inl is) runs = inr (λ i. fresh (subst (λ (x : PeerState). In x.actor w.used) is i))
new_life w p p' bytes C actor fresh (inr is) runs = absurd (let stopped : true ≡ false = ap (λ (x : PeerState). x.stopped) (sym is) ∙ runs in cc)

-- the peer that crashed comes back, and changes of its life were made
crash_returns : (w : World) (n : ℕ) (p p' : PeerState) (bytes : List ℕ) (whole made : List ChangeParts) (keep : ℕ) (actor : Actor) (reply : EventReply) → WorldInvariant w → HasPeer w n p
    → Recovers bytes p.id (p.applied ++ whole) keep → ComesBack p bytes actor reply p' → (In actor w.used → ⊥) → Makes w p whole made
    → Carries w (act_by n whole made) (with_used (with_made (with_peer w n p') made) actor)
crash_returns w n p p' bytes whole made keep actor reply h present r comes fresh m =
    let w' = with_used (with_made (with_peer w n p') made) actor in
    let C = p.applied ++ whole in
    let q = h.peers n p present in
    let moves : Moves w w' n p' made = record { id = refl; peers = refl; made = refl; used = λ a i. In-left a w.used (actor ∷ []) i; wire = refl; reads = refl } in
    let grows = moves_grow w w' n p' made moves in
    let back = is_back p p' bytes C keep actor reply r comes in
    let all : AllIn C w'.made = λ c i. elim (In-append c p.applied whole i) [
      | inl old ↦ begins-In w.made w'.made grows.made c (q.applied c old)
      | inr new ↦ m.all c new
    ] in
    let none : (c : ChangeParts) → In c w'.made → c.actor ≡ actor → ⊥ = λ c i is. elim (In-append c w.made made i) [
      | inl old ↦ fresh (subst (λ a. In a w.used) is (h.used c old))
      | inr fresh_one ↦ fresh (subst (λ a. In a w.used) (sym (m.by.actor c fresh_one) ∙ is) q.used)
    ] in
    let may : IsMaking w p (whole ++ []) made = subst (λ x. IsMaking w p x made) (sym (append-nil whole)) m.may in
    peer_changes w w' n p p' made (act_by n whole made) (enters_by w n p p' whole [] made present (back_applied p p' bytes C actor back) r.history.sound may) (record {
      old = h;
      present = present;
      moves = moves;
      by = m.by;
      carried = back_is_carried w w' p p' bytes C keep actor q grows r all (In-last actor w.used) none back;
      life = new_life w p p' bytes C actor fresh back;
    })

-- ---- a crash during a call

-- What the interrupted call left, what of it was kept, and what that made.
pub record Interrupted (w : World) (p : PeerState) (made : peer.Call) (answer : peer.Reply) (at : PeerState) (kept : ℕ) : Type 0 where
  pub runs : p.stopped ≡ false
  pub enters : Enters p made answer at
  pub cut : Recovered p at kept enters.new
  pub makes : Makes w p cut.whole (made_by made cut.whole)

pub interrupted : (w : World) (n : ℕ) (p : PeerState) (named : EventCall) (at : PeerState) (kept : ℕ) (actor : Actor) → WorldInvariant w → MayHappen w (Crash n (Some named) kept actor) → HasPeer w n p
    → (might : MayBe w p (Some named) at) → Interrupted w p might.0 might.1 at kept
interrupted w n p named at kept actor h may present might =
    let e = Crash n (Some named) kept actor in
    let made = might.0 in
    let q = h.peers n p present in
    let runs = may world.Stopped n p (inl refl) present in
    let enters = steps_enter p made might.1 at might.3 in
    let cut = recovered_cut p at kept enters.new (subst IsDocId (sym q.id) h.is_id) (q.live runs).journal enters.journal (history_grows enters.new p.applied q.history enters.fits enters.limits) in
    let came = all_was_made w named made p h q might.2 (λ link bytes is. may world.ForeignChange bytes (ap (λ (x : EventCall). foreign_bytes_of (Crash n (Some x) kept actor)) is)) in
    record {
      runs = runs;
      enters = enters;
      cut = cut;
      makes = makes w n p made enters.new cut.whole cut.others h present runs (may_enter p made might.1 enters.new enters.entered) cut.split came (λ c one edit d i same.
          may world.HashClash c d (would_edit w e n named made c refl might.2 edit, kept_whole c cut.whole kept one cut.within) i same);
    } where
      kept_whole : (c : ChangeParts) (whole : List ChangeParts) (kept : ℕ) → whole ≡ c ∷ [] → length (bytes_of_records whole) ≤ kept → nat_le (length (record_of c)) kept ≡ true
      kept_whole c whole kept one within =
          let enough : length (record_of c) ≤ kept = subst (λ k. k ≤ kept) (ap (λ l. length (bytes_of_records l)) one ∙ ap length (append-nil (record_of c))) within in
          grind (arith, nat_tests)

-- what the call makes is what counts as made
pub during_is : (w : World) (named : EventCall) (made : peer.Call) (new : List ChangeParts) → IsCall w named made → made_during (Some named) new ≡ made_by made new
during_is w (Alone own) made new is = ap (λ (m : peer.Call). made_by m new) (sym is.0)
during_is w (Merge from) made new is = ap (λ (m : peer.Call). made_by m new) (sym is.2)
during_is w (Deliver entry) made new is = ap (λ (m : peer.Call). made_by m new) (sym is.2)

-- ---- every crash

-- as a reply, that a peer crashed doesn't say how its lists changed
crash_is : (w : World) (n : ℕ) (named : EventCall) (kept : ℕ) (actor : Actor) (reply : EventReply) (p p' : PeerState) (bytes : List ℕ) (a : Act) → ComesBack p bytes actor reply p'
    → IsActOf w (Crash n (Some named) kept actor) reply a
crash_is w n named kept actor reply p p' bytes a (inl again) = subst (λ r. IsActOf w (Crash n (Some named) kept actor) r a) (sym again.0) tt
crash_is w n named kept actor reply p p' bytes a (inr down) = subst (λ r. IsActOf w (Crash n (Some named) kept actor) r a) (sym down.1) tt

-- but that a peer that ran crashed between calls does
between_is : (w : World) (n kept : ℕ) (actor : Actor) (reply : EventReply) (p p' : PeerState) (bytes : List ℕ) (a : Act) → ComesBack p bytes actor reply p'
    → ((q : PeerState) → HasPeer w n q → q.stopped ≡ false → a ≡ Nothing) → IsActOf w (Crash n None kept actor) reply a
between_is w n kept actor reply p p' bytes a (inl again) none = subst (λ r. IsActOf w (Crash n None kept actor) r a) (sym again.0) none
between_is w n kept actor reply p p' bytes a (inr down) none = subst (λ r. IsActOf w (Crash n None kept actor) r a) (sym down.1) none

same_running : (w : World) (n : ℕ) (p q : PeerState) → HasPeer w n p → HasPeer w n q → q.stopped ≡ false → p.stopped ≡ false
same_running w n p q i j runs = let same : Some p ≡ Some q = sym i ∙ j in let is : p ≡ q = cc in ap (λ (x : PeerState). x.stopped) is ∙ runs

crashed : (w : World) (n : ℕ) (during : Option EventCall) (kept : ℕ) (actor : Actor) (reply : EventReply) → WorldInvariant w → MayHappen w (Crash n during kept actor) → (c : Crashes w n during kept actor reply)
    → Acts w (Crash n during kept actor) reply (with_used (with_made (with_peer w n c.after) (made_during during (gained_changes c.before c.after))) actor)
crashed w n None kept actor reply h may c =
    let p = c.before in
    let f = found_between w p kept h (h.peers n p c.present) in
    let comes = subst (λ (x : PeerState). ComesBack p (kept_bytes p x kept) actor reply c.after) c.might c.back in
    record {
      act = act_by n f.whole [];
      carries = crash_returns w n p c.after (kept_bytes p p kept) f.whole [] f.keep actor reply h c.present f.recovers comes (may world.ActorUsed actor refl) (makes_none w p f.whole f.were_made);
      is = between_is w n kept actor reply p c.after (kept_bytes p p kept) (act_by n f.whole []) comes (λ q there runs. ap (λ l. act_by n l []) (f.none (same_running w n p q c.present there runs)));
    }
crashed w n (Some named) kept actor reply h may c =
    let p = c.before in
    let i = interrupted w n p named c.at kept actor h may c.present c.might in
    let made = c.might.0 in
    let whole = i.cut.whole in
    let same : made_during (Some named) (gained_changes p c.after) ≡ made_by made whole =
    during_is w named made (gained_changes p c.after) c.might.2 ∙ ap (λ l. made_by made l) (gained_back p c.after (kept_bytes p c.at kept) whole i.cut.keep actor reply i.cut.recovers c.back) in
    let act = act_by n whole (made_by made whole) in
    record {
      act = act;
      carries = subst (λ l. Carries w act (with_used (with_made (with_peer w n c.after) l) actor)) (sym same)
          (crash_returns w n p c.after (kept_bytes p c.at kept) whole (made_by made whole) i.cut.keep actor reply h c.present i.cut.recovers c.back (may world.ActorUsed actor refl) i.makes);
      is = crash_is w n named kept actor reply p c.after (kept_bytes p c.at kept) act c.back;
    }

pub crash_acts : (w : World) (n : ℕ) (during : Option EventCall) (kept : ℕ) (actor : Actor) (reply : EventReply) (w' : World) → WorldInvariant w → MayHappen w (Crash n during kept actor)
    → Happens w (Crash n during kept actor) reply w' → Acts w (Crash n during kept actor) reply w'
crash_acts w n during kept actor reply w' h may s = subst (λ x. Acts w (Crash n during kept actor) reply x) (sym s.1) (crashed w n during kept actor reply h may s.0)

-- ---- what is kept of a call

-- a crash during a call keeps just what is whole
pub crash_keeps : (w : World) (n : ℕ) (named : EventCall) (kept : ℕ) (actor : Actor) (reply : EventReply) (w' : World) → WorldInvariant w → Next w (Crash n (Some named) kept actor) reply w' → (w' ≡ w) ⊎ KeepsWhole w w' n named kept
crash_keeps w n named kept actor reply w' h (inl refused) = inl refused.left
crash_keeps w n named kept actor reply w' h (inr does) =
    let s = does.happens in
    let c = s.0 in
    let p = c.before in
    let i = interrupted w n p named c.at kept actor h does.may c.present c.might in
    let new = i.enters.new in
    let call = c.might.0 in
    let made : w'.made ≡ w.made ++ made_during (Some named) (gained_changes p c.after) = ap (λ (x : World). x.made) s.1 in
    inr (record {
      before = p;
      stood = c.present;
      runs = i.runs;
      made = call;
      is = c.might.2;
      new = new;
      entered = may_enter p call c.might.1 new i.enters.entered;
      fits = i.enters.fits;
      whole = i.cut.whole;
      are_whole = record { others = i.cut.others; split = i.cut.split; within = i.cut.within; torn = i.cut.torn };
      after = c.after;
      present = subst (λ x. HasPeer x n c.after) (sym s.1) (slice_get-set_same w.peers n p c.after c.present);
      there = came_back p c.after (kept_bytes p c.at kept) i.cut.whole i.cut.keep actor reply i.cut.recovers c.back;
      added =
          made
          ∙ ap (λ l. w.made ++ l)
          (during_is w named call (gained_changes p c.after) c.might.2 ∙ ap (λ l. made_by call l) (gained_back p c.after (kept_bytes p c.at kept) i.cut.whole i.cut.keep actor reply i.cut.recovers c.back));
    })

-- a crash within an edit makes nothing, or its change
made_whole : (w w' : World) (n : ℕ) (made : peer.Call) (kept : ℕ) (k : KeepsWhole w w' n (Alone made) kept) → MayEnter k.before made k.new → w'.made ≡ w.made ++ made_by made k.whole
    → (w'.made ≡ w.made) ⊎ MakesWhole w w' n made kept
made_whole w w' n (peer.Edit ss time message) kept k (inl none) added =
    inl (added ∙ ap (λ l. w.made ++ l) (nothing_left k.whole k.are_whole.others (sym none ∙ k.are_whole.split)) ∙ append-nil w.made)
made_whole w w' n (peer.Edit ss time message) kept k (inr one) added =
    let c = one.0 in
    elim (one_cut c k.whole k.are_whole.others (sym one.2 ∙ k.are_whole.split)) [
      | inl none ↦ inl (added ∙ ap (λ l. w.made ++ l) none ∙ append-nil w.made)
      | inr is ↦ inr (record {
        change = c;
        is = record { peer = k.before; present = k.stood; runs = k.runs; edited = one.1 };
        whole = subst (λ m. m ≤ kept) (ap (λ l. length (bytes_of_records l)) is ∙ ap length (append-nil (record_of c))) k.are_whole.within;
        added = added ∙ ap (λ l. w.made ++ l) is;
        after = k.after;
        present = k.present;
        there = k.there ∙ ap (λ l. k.before.applied ++ l) is;
      })
    ]
made_whole w w' n made kept k entered added = inl (added ∙ append-nil w.made)

pub crash_makes : (w : World) (n : ℕ) (made : peer.Call) (kept : ℕ) (actor : Actor) (reply : EventReply) (w' : World) → WorldInvariant w → Next w (Crash n (Some (Alone made)) kept actor) reply w'
    → (w'.made ≡ w.made) ⊎ MakesWhole w w' n made kept
crash_makes w n made kept actor reply w' h next = elim (crash_keeps w n (Alone made) kept actor reply w' h next) [
  | inl same ↦ inl (ap (λ (x : World). x.made) same)
  | inr k ↦
      made_whole w w' n made kept k (subst (λ m. MayEnter k.before m k.new) k.is.0 k.entered) (subst (λ (m : peer.Call). w'.made ≡ w.made ++ made_by m k.whole) k.is.0 k.added)
]
