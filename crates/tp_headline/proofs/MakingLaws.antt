-- What calls make, and what they make of a peer of a world.
use Rattle.tp_headline.proofs.Common.{◌≡◌, ◌⊎◌, inl, inr, ℕ, ◌+◌, ◌<◌, ◌≤◌, List, [], ◌∷◌, ◌++◌, length, length-append, take, cond, Bool, true, false, Option, Some, refl, sym, ap, ◌∙◌, subst, append-nil, append_assoc, arith, take-append-add, take-length, append_cancel_left, In, AllIn, In-append, In-left, In-right, In-slice_get, never, not_true, DocId, ChangeParts, hash_of, IsChange, absent, has, Sound, Fits-from_cause, has-In, In-has, Sound-push, IsDocId, journal, record_of, bytes_of_records, IsHistory, Recovers, journal-append, recovers_cut, history_prefix, recovers_once, Keeps, came, changes_in, decoded_changes, PeerState, history_grows, journal_grows, step_keeps, Alone, Merge, Deliver, IsAlone, IsCall, made_by, WorldInvariant, IsCarried, MayEnter, Event, called_in, IsEditAt, IsEditOf, WouldEdit, World, HasPeer, lists_of, with_made, with_peer}
use Rattle.std.proofs.lemmas.Grind.{flat_map-append}
use Rattle.tp_document.specs.Editing.{EditRequest, IsAcceptedEdit, asking}
use Rattle.tp_document.proofs.EditFits.{edit_determined}
use Rattle.tp_headline.specs.Call.{EventCall}
use Rattle.tp_headline.proofs.CallLaws.{Enters, Stops, calm_kept, may_enter, steps_leave}
use Rattle.tp_headline.proofs.Lasting.{Carries, Grows}
use Rattle.tp_headline.specs.Headline.{MayMake}
use Rattle.tp_headline.proofs.PeerMoves.{AreBy, IsMaking, Moves, act_by, enters_by, moves_grow, peer_changes}
use Rattle.tp_peer.specs.PeerStep as peer

-- ---- edits

-- A change of an edit is what the edit asks for, under the peer's actor.
record IsAsked (p : PeerState) (c : ChangeParts) : Type 0 where
  asked : EditRequest
  who : asked.actor ≡ p.actor
  edited : IsAcceptedEdit p.applied asked c

asked_of : (p : PeerState) (made : peer.Call) (c : ChangeParts) → IsEditOf p made c → IsAsked p c
asked_of p (peer.Edit ss time message) c edited = record { asked = asking p.actor ss time message; who = refl; edited = edited }
asked_of p made c edited = absurd edited

-- an edit makes one change alone
pub one_edit : (w : World) (n : ℕ) (made : peer.Call) (c d : ChangeParts) → WorldInvariant w → IsEditAt w n made c → IsEditAt w n made d → c ≡ d
one_edit w n made c d h e f =
    let same : f.peer ≡ e.peer = let is : Some f.peer ≡ Some e.peer = sym f.present ∙ e.present in cc in
    one made e.peer (h.peers n e.peer e.present).history.sound e.edited (subst (λ (q : PeerState). IsEditOf q made d) same f.edited) where
      one : (made : peer.Call) (p : PeerState) → Sound p.applied → IsEditOf p made c → IsEditOf p made d → c ≡ d
      one (peer.Edit ss time message) p sound x y = edit_determined p.applied (asking p.actor ss time message) c d sound x.edit y.edit
      one made p sound x y = absurd x

-- the change of an edit wasn't made before
pub edit_is_new : (w : World) (n : ℕ) (made : peer.Call) (c : ChangeParts) → WorldInvariant w → IsEditAt w n made c → In c w.made → ⊥
edit_is_new w n made c h e i =
    let p = e.peer in
    let a = asked_of p made c e.edited in
    let q = h.peers n p e.present in
    let there : In c p.applied = (q.live e.runs).own c i (a.edited.edit.actor ∙ a.who) in
    never (In-has p.applied c (hash_of c) there refl) (Fits-from_cause p.applied c a.edited.enters).new

-- an edit is no merge and no delivery
pub edit_alone : (w : World) (n : ℕ) (named : EventCall) (made : peer.Call) (c : ChangeParts) → IsCall w named made → IsEditAt w n made c → named ≡ Alone made
edit_alone w n (Alone own) made c is e = ap Alone (sym is.0)
edit_alone w n (Merge from) made c is e = absurd (subst (λ m. IsEditOf e.peer m c) is.2 e.edited)
edit_alone w n (Deliver entry) made c is e = absurd (subst (λ m. IsEditOf e.peer m c) is.2 e.edited)

-- the call of an event is one
pub one_named : (m n : ℕ) (a b : EventCall) → (let o : Option (ℕ × EventCall) = Some (m, a) in o) ≡ Some (n, b) → (m ≡ n) × (a ≡ b)
one_named m n a b e =
    let pair : (let x : ℕ × EventCall = (m, a) in x) ≡ (n, b) = cc in
    (ap (λ (x : ℕ × EventCall). x.0) pair, ap (λ (x : ℕ × EventCall). x.1) pair)

pub one_call : (m n : ℕ) (a b : peer.Call) → (let o : Option (ℕ × EventCall) = Some (m, Alone a) in o) ≡ Some (n, Alone b) → (m ≡ n) × (a ≡ b)
one_call m n a b e = let one = one_named m n (Alone a) (Alone b) e in (one.0, let same = one.1 in cc)

pub would_edit : (w : World) (e : Event) (n : ℕ) (named : EventCall) (made : peer.Call) (c : ChangeParts) → called_in e ≡ Some (n, named) → IsCall w named made → IsEditAt w n made c → WouldEdit w e c
would_edit w e n named made c called is edit =
    record { number = n; made = made; called = called ∙ ap (λ (x : EventCall). Some (n, x)) (edit_alone w n named made c is edit); edit = edit }

-- ---- what is made

-- Of the new changes these were made, by the peer alone, and the others were made before.
pub record Makes (w : World) (p : PeerState) (new made : List ChangeParts) : Type 0 where
  pub may : IsMaking w p new made
  pub by : AreBy p made
  pub all : AllIn new (w.made ++ made)
  pub own : AllIn made new

-- nothing is made where all was made before
pub makes_none : (w : World) (p : PeerState) (new : List ChangeParts) → AllIn new w.made → Makes w p new []
makes_none w p new old = record {
  may = old;
  by = record { runs = λ c i. absurd i; actor = λ c i. absurd i; limits = λ c i. absurd i };
  all = λ c i. In-left c w.made [] (old c i);
  own = λ c i. absurd i;
}

-- The change of an edit may be made, where no other that was made has its hash.
edit_may : (w : World) (n : ℕ) (made : peer.Call) (c : ChangeParts) → WorldInvariant w → (e : IsEditAt w n made c) → IsAsked e.peer c → ((d : ChangeParts) → In d w.made → hash_of d ≡ hash_of c → d ≡ c)
    → MayMake (lists_of w) e.peer.applied c
edit_may w n made c h e a apart =
    let p = e.peer in
    let q = h.peers n p e.present in
    let live = q.live e.runs in
    let fits = Fits-from_cause p.applied c a.edited.enters in
    let actor : c.actor ≡ p.actor = a.edited.edit.actor ∙ a.who in
    record {
      deps = a.edited.edit.deps;
      sound = Sound-push p.applied c q.history.sound fits;
      hash = not_true (has w.made (hash_of c)) (λ t.
          let d = has-In w.made (hash_of c) t in
          let there : In c p.applied = live.own c (subst (λ x. In x w.made) (apart d.0 d.1 d.2) d.1) actor in
          never (In-has p.applied c (hash_of c) there refl) fits.new);
      own = λ d i same. live.own d i (same ∙ actor);
    }

makes_edit : (w : World) (n : ℕ) (made : peer.Call) (c : ChangeParts) → WorldInvariant w → (e : IsEditAt w n made c) → ((d : ChangeParts) → In d w.made → hash_of d ≡ hash_of c → d ≡ c)
    → Makes w e.peer (c ∷ []) (c ∷ [])
makes_edit w n made c h e apart =
    let a = asked_of e.peer made c e.edited in
    record {
      may = (refl, refl, edit_may w n made c h e a apart);
      by = record {
        runs = λ d i. e.runs;
        actor = λ d i. elim i [ inl is ↦ ap (λ (x : ChangeParts). x.actor) is ∙ a.edited.edit.actor ∙ a.who | inr none ↦ absurd none ];
        limits = λ d i. elim i [ inl is ↦ subst IsChange (sym is) a.edited.limits | inr none ↦ absurd none ];
      };
      all = λ d i. In-right d w.made (c ∷ []) i;
      own = λ d i. i;
    }

-- one change is whole or it isn't
pub one_cut : (c : ChangeParts) (whole others : List ChangeParts) → c ∷ [] ≡ whole ++ others → (whole ≡ []) ⊎ (whole ≡ c ∷ [])
one_cut c [] others e = inl refl
one_cut c (d ∷ []) others e = inr cc
one_cut c (d ∷ f ∷ ds) others e = absurd cc

pub nothing_left : (whole others : List ChangeParts) → [] ≡ whole ++ others → whole ≡ []
nothing_left [] others e = refl
nothing_left (c ∷ whole) others e = absurd cc

-- what a call makes by the first of the changes that it may enter, where no other that was made has the hash of an edit's
pub makes : (w : World) (n : ℕ) (p : PeerState) (made : peer.Call) (new whole others : List ChangeParts) → WorldInvariant w → HasPeer w n p → p.stopped ≡ false → MayEnter p made new → new ≡ whole ++ others
    → AllIn (p.waiting ++ came p made) w.made
    → ((c : ChangeParts) → whole ≡ c ∷ [] → IsEditAt w n made c → (d : ChangeParts) → In d w.made → hash_of d ≡ hash_of c → d ≡ c) → Makes w p whole (made_by made whole)
makes w n p (peer.Edit ss time message) new whole others h present runs (inl none) split came apart =
    subst (λ l. Makes w p l l) (sym (nothing_left whole others (sym none ∙ split))) (makes_none w p [] (λ c i. absurd i))
makes w n p (peer.Edit ss time message) new whole others h present runs (inr one) split came apart =
    let c = one.0 in
    let e : IsEditAt w n (peer.Edit ss time message) c = record { peer = p; present = present; runs = runs; edited = one.1 } in
    elim (one_cut c whole others (sym one.2 ∙ split)) [
      | inl none ↦ subst (λ l. Makes w p l l) (sym none) (makes_none w p [] (λ d i. absurd i))
      | inr is ↦ subst (λ l. Makes w p l l) (sym is) (makes_edit w n (peer.Edit ss time message) c h e (apart c is e))
    ]
makes w n p made new whole others h present runs enters split came apart =
    makes_none w p whole (λ c i. came c (enters c (subst (λ l. In c l) (sym split) (In-left c whole others i))))

-- ---- what comes

absent_step : (b : Bool) (C D : List ChangeParts) (d c : ChangeParts) → (In c (absent C D) → In c D) → In c (cond b (absent C D) (d ∷ absent C D)) → In c (d ∷ D)
absent_step true C D d c rest i = inr (rest i)
absent_step false C D d c rest (inl is) = inl is
absent_step false C D d c rest (inr i) = inr (rest i)

-- what is absent is of the list
absent-In : (C D : List ChangeParts) → AllIn (absent C D) D
absent-In C [] c i = i
absent-In C (d ∷ D) c i = absent_step (has C (hash_of d)) C D d c (absent-In C D c) i

-- what comes by a call was made, where what bytes of any origin carry was
comes : (w : World) (named : EventCall) (made : peer.Call) (p : PeerState) → WorldInvariant w → IsCall w named made
    → ((link : ℕ) (bytes : List ℕ) → named ≡ Alone (peer.Receive link bytes) → AllIn (changes_in bytes) w.made) → AllIn (came p made) w.made
comes w (Alone own) made p h is brought = subst (λ (m : peer.Call). AllIn (came p m) w.made) (sym is.0) (own_comes own is.1 (λ link bytes e. brought link bytes (ap Alone e))) where
  own_comes : (own : peer.Call) → IsAlone own → ((link : ℕ) (bytes : List ℕ) → own ≡ peer.Receive link bytes → AllIn (changes_in bytes) w.made) → AllIn (came p own) w.made
  own_comes (peer.Merge other) alone brings = absurd alone
  own_comes (peer.Receive link bytes) alone brings = brings link bytes refl
  own_comes own alone brings = λ c i. absurd i
comes w (Merge from) made p h is brought =
    subst (λ (m : peer.Call). AllIn (came p m) w.made) (sym is.2) (λ c i. (h.peers from is.0 is.1).applied c (absent-In p.applied is.0.applied c i))
comes w (Deliver entry) made p h is brought =
    let m = h.wire is.0 (In-slice_get w.wire entry is.0 is.1) in
    subst (λ (x : peer.Call). AllIn (came p x) w.made) (sym is.2) (λ c i. m.carries c (subst (λ l. In c l) (ap decoded_changes m.reads) i))

-- and so was what waits
pub all_was_made : (w : World) (named : EventCall) (made : peer.Call) (p : PeerState) → WorldInvariant w → IsCarried w p → IsCall w named made
    → ((link : ℕ) (bytes : List ℕ) → named ≡ Alone (peer.Receive link bytes) → AllIn (changes_in bytes) w.made) → AllIn (p.waiting ++ came p made) w.made
all_was_made w named made p h q is brought c i = elim (In-append c p.waiting (came p made) i) [ inl waits ↦ q.waiting c waits | inr new ↦ comes w named made p h is brought c new ]

-- ---- the peer afterwards

-- What a call of a running peer left: it tried to enter changes, and the records of some are whole in its journal.
-- Those entered, but for one at most where the device failed.
pub record Left (p : PeerState) (made : peer.Call) (p' : PeerState) : Type 0 where
  pub tried : List ChangeParts
  pub may : MayEnter p made tried
  pub whole : List ChangeParts
  pub others : List ChangeParts
  pub split : tried ≡ whole ++ others
  pub count : ℕ
  pub bytes : p'.journal ≡ p.journal ++ take count (bytes_of_records tried)
  pub within : length (bytes_of_records whole) ≤ count
  pub torn : (c : ChangeParts) (more : List ChangeParts) → others ≡ c ∷ more → count < length (bytes_of_records (whole ++ c ∷ []))
  pub keep : ℕ
  pub recovers : Recovers p'.journal p'.id (p.applied ++ whole) keep
  pub new : List ChangeParts
  pub more : List ChangeParts
  pub applied : p'.applied ≡ p.applied ++ new
  pub entered : whole ≡ new ++ more
  pub few : length more ≤ 1
  pub history : IsHistory p'.applied
  pub waits : AllIn p'.waiting (p.waiting ++ came p made)
  pub id : p'.id ≡ p.id
  pub actor : p'.actor ≡ p.actor
  pub calm : p.device.can_fail ≡ false → p'.device.can_fail ≡ false
  pub on : p'.stopped ≡ false → (more ≡ []) × (p'.journal ≡ journal p'.id p'.applied)

pub recovers_all : (id : DocId) (C : List ChangeParts) → IsDocId id → IsHistory C → Recovers (journal id C) id C (length (journal id C))
recovers_all id C is h = record { tail = []; is_id = is; history = h; short = inl (omega arith); spelled = sym (append-nil (journal id C)); keep_is = refl }

left_on : (w : World) (p : PeerState) (made : peer.Call) (answer : peer.Reply) (p' : PeerState) → WorldInvariant w → IsCarried w p → p.stopped ≡ false → Enters p made answer p' → Left p made p'
left_on w p made answer p' h q runs e =
    let history : IsHistory p'.applied = subst IsHistory (sym e.applied) (history_grows e.new p.applied q.history e.fits e.limits) in
    let journal_is : p'.journal ≡ journal p'.id p'.applied =
    e.journal ∙ ap (λ l. l ++ bytes_of_records e.new) (q.live runs).journal ∙ sym (journal-append p.id p.applied e.new)
    ∙ ap (λ C. journal p.id C) (sym e.applied) ∙ ap (λ (i : DocId). journal i p'.applied) (sym e.id) in
    let is_id : IsDocId p'.id = subst IsDocId (sym (e.id ∙ q.id)) h.is_id in
    record {
      tried = e.new;
      may = may_enter p made answer e.new e.entered;
      whole = e.new;
      others = [];
      split = sym (append-nil e.new);
      count = length (bytes_of_records e.new);
      bytes = e.journal ∙ ap (λ l. p.journal ++ l) (sym (take-length (bytes_of_records e.new)));
      within = omega arith;
      torn = λ c more none. absurd cc;
      keep = length (journal p'.id p'.applied);
      recovers = subst (λ C. Recovers p'.journal p'.id C (length (journal p'.id p'.applied))) e.applied
          (subst (λ b. Recovers b p'.id p'.applied (length (journal p'.id p'.applied))) (sym journal_is) (recovers_all p'.id p'.applied is_id history));
      new = e.new;
      more = [];
      applied = e.applied;
      entered = sym (append-nil e.new);
      few = omega arith;
      history = history;
      waits = e.waits;
      id = e.id;
      actor = e.actor;
      calm = e.calm;
      on = λ on. (refl, journal_is);
    }

records-append : (C D : List ChangeParts) → bytes_of_records (C ++ D) ≡ bytes_of_records C ++ bytes_of_records D
records-append C D = flat_map-append record_of C D

records-length : (C D : List ChangeParts) → length (bytes_of_records (C ++ D)) ≡ length (bytes_of_records C) + length (bytes_of_records D)
records-length C D = ap length (records-append C D) ∙ length-append (bytes_of_records C) (bytes_of_records D)

few_whole : (torn whole others : List ChangeParts) → length torn ≤ 1 → torn ≡ whole ++ others → length whole ≤ 1
few_whole torn whole others one split = let parts = ap length split ∙ length-append whole others in omega arith

left_stopped : (w : World) (p : PeerState) (made : peer.Call) (answer : peer.Reply) (p' : PeerState) → WorldInvariant w → IsCarried w p → p.stopped ≡ false → Keeps p made answer p' → Stops p made p' → p'.stopped ≡ true
    → Left p made p'
left_stopped w p made answer p' h q runs k s stopped =
    let torn = s.torn in
    let tried = s.new ++ torn in
    let all : IsHistory (p.applied ++ tried) = history_grows tried p.applied q.history s.fits s.limits in
    let after : IsHistory (p'.applied ++ torn) = subst IsHistory (sym (append_assoc p.applied s.new torn) ∙ ap (λ l. l ++ torn) (sym s.applied)) all in
    let is_id : IsDocId p'.id = subst IsDocId (sym (k.id ∙ q.id)) h.is_id in
    let cut = recovers_cut p'.id p'.applied torn s.count is_id after in
    let whole = cut.whole in
    let others = cut.are_whole.others in
    let bytes : p'.journal ≡ journal p'.id p'.applied ++ take s.count (bytes_of_records torn) =
    s.journal ∙ journal_grows p p' s.new (take s.count (bytes_of_records torn)) k.id s.applied (q.live runs).journal in
    let keep = length (journal p'.id (p'.applied ++ whole)) in
    let size = length (bytes_of_records s.new) in
    let present : bytes_of_records s.new ++ take s.count (bytes_of_records torn) ≡ take (size + s.count) (bytes_of_records tried) =
    sym (take-append-add (bytes_of_records s.new) (bytes_of_records torn) s.count)
    ∙ ap (λ l. take (size + s.count) l) (sym (records-append s.new torn)) in
    let longer : p'.applied ++ whole ≡ p.applied ++ (s.new ++ whole) = ap (λ l. l ++ whole) s.applied ∙ append_assoc p.applied s.new whole in
    record {
      tried = tried;
      may = s.may;
      whole = s.new ++ whole;
      others = others;
      split = ap (λ l. s.new ++ l) cut.are_whole.split ∙ sym (append_assoc s.new whole others);
      count = size + s.count;
      bytes = s.journal ∙ ap (λ l. p.journal ++ l) present;
      within = let parts = records-length s.new whole in let within = cut.are_whole.within in omega arith;
      torn = λ d more is.
          let parts = records-length s.new (whole ++ d ∷ []) in
          let torn = cut.are_whole.torn d more is in
          let same = ap (λ l. length (bytes_of_records l)) (append_assoc s.new whole (d ∷ [])) in
          omega arith;
      keep = keep;
      recovers = subst (λ C. Recovers p'.journal p'.id C keep) longer (subst (λ b. Recovers b p'.id (p'.applied ++ whole) keep) (sym bytes) cut.recovers);
      new = s.new;
      more = whole;
      applied = s.applied;
      entered = refl;
      few = few_whole torn whole others s.one cut.are_whole.split;
      history = history_prefix p'.applied torn after;
      waits = k.waits;
      id = k.id;
      actor = k.actor;
      calm = calm_kept p made answer p' k;
      on = λ on. never stopped on;
    }

pub left_of : (w : World) (p : PeerState) (made : peer.Call) (answer : peer.Reply) (p' : PeerState) → WorldInvariant w → IsCarried w p → p.stopped ≡ false → peer.PeerStep p made answer p' → Left p made p'
left_of w p made answer p' h q runs s = elim (steps_leave p made answer p' s) [
  | inl e ↦ left_on w p made answer p' h q runs e
  | inr f ↦ left_stopped w p made answer p' h q runs (step_keeps p made answer p' s) f.0 f.1
]

-- what its journal recovers to beyond what it had is that
pub kept_is : (p : PeerState) (made : peer.Call) (p' : PeerState) (kept : List ChangeParts) (keep : ℕ) (l : Left p made p') → Recovers p'.journal p'.id (p.applied ++ kept) keep → kept ≡ l.whole
kept_is p made p' kept keep l r = append_cancel_left p.applied kept l.whole (recovers_once p'.journal p'.id p'.id (p.applied ++ kept) (p.applied ++ l.whole) keep l.keep r l.recovers).1

-- changes that were made were entered
left_is_carried : (w w' : World) (p : PeerState) (call : peer.Call) (p' : PeerState) (made : List ChangeParts) (l : Left p call p') → Grows w w' → w'.made ≡ w.made ++ made → Makes w p l.whole made
    → AllIn (p.waiting ++ came p call) w.made → p.stopped ≡ false → IsCarried w p → IsCarried w' p'
left_is_carried w w' p call p' made l grows is m came runs q =
    let live = q.live runs in
    let new_made : AllIn l.new w'.made = λ c i. subst (λ x. In c x) (sym is) (m.all c (subst (λ x. In c x) (sym l.entered) (In-left c l.new l.more i))) in
    record {
      id = l.id ∙ q.id ∙ sym grows.id;
      history = l.history;
      applied = λ c i. elim (In-append c p.applied l.new (subst (λ x. In c x) l.applied i)) [
        | inl old ↦ subst (λ x. In c x) (sym is) (In-left c w.made made (q.applied c old))
        | inr new ↦ new_made c new
      ];
      waiting = λ c i. subst (λ x. In c x) (sym is) (In-left c w.made made (came c (l.waits c i)));
      used = subst (λ a. In a w'.used) (sym l.actor) (grows.used p.actor q.used);
      calm = l.calm q.calm;
      live = λ on.
          let whole_new : l.whole ≡ l.new = l.entered ∙ ap (λ x. l.new ++ x) (l.on on).0 ∙ append-nil l.new in
          record {
            journal = (l.on on).1;
            own = λ c i by. subst (λ x. In c x) (sym l.applied) (elim (In-append c w.made made (subst (λ x. In c x) is i)) [
              | inl old ↦ In-left c p.applied l.new (live.own c old (by ∙ l.actor))
              | inr fresh ↦ In-right c p.applied l.new (subst (λ x. In c x) whole_new (m.own c fresh))
            ]);
          };
      dead = λ stopped. record {
        more = l.more;
        few = l.few;
        were_made = λ c i. subst (λ x. In c x) (sym is) (m.all c (subst (λ x. In c x) (sym l.entered) (In-right c l.new l.more i)));
        keep = l.keep;
        recovers = subst (λ C. Recovers p'.journal p'.id C l.keep) (ap (λ x. p.applied ++ x) l.entered ∙ sym (append_assoc p.applied l.new l.more) ∙ ap (λ x. x ++ l.more) (sym l.applied)) l.recovers;
      };
    }

-- a call of a running peer
pub peer_left : (w : World) (n : ℕ) (p : PeerState) (call : peer.Call) (p' : PeerState) → WorldInvariant w → HasPeer w n p → p.stopped ≡ false → (l : Left p call p') → AllIn (p.waiting ++ came p call) w.made
    → Makes w p l.whole (made_by call l.whole) → Carries w (act_by n l.new (made_by call l.whole)) (with_made (with_peer w n p') (made_by call l.whole))
peer_left w n p call p' h present runs l came m =
    let made = made_by call l.whole in
    let w' = with_made (with_peer w n p') made in
    let moves : Moves w w' n p' made = record { id = refl; peers = refl; made = refl; used = λ a i. i; wire = refl; reads = refl } in
    let may : IsMaking w p (l.new ++ l.more) made = subst (λ x. IsMaking w p x made) l.entered m.may in
    peer_changes w w' n p p' made (act_by n l.new made) (enters_by w n p p' l.new l.more made present l.applied (subst Sound l.applied l.history.sound) may) (record {
      old = h;
      present = present;
      moves = moves;
      by = m.by;
      carried = left_is_carried w w' p call p' made l (moves_grow w w' n p' made moves) refl m came runs (h.peers n p present);
      life = λ on. inl (runs, l.actor);
    })
