-- What an event comes to, from what its calls did.
use Rattle.tp_event.proofs.Common.{◌≡◌, ◌⊎◌, inl, inr, ℕ, ◌+◌, ◌-◌, ◌^◌, ◌<◌, ◌≤◌, min, List, [], ◌∷◌, ◌++◌, length, take, slice_set, true, false, Bool, ◌&&◌, nat_le, Option, Some, None, Result, Ok, Err, refl, sym, ap, ◌∙◌, subst, append-nil, arith, OnOk, is_err, slice_get, length-append, length-take, take_all, In, truth, Actor, Hash, ChangeParts, Recovers, recovery_of, length-record_of, PeerState, disarming, Event, Crash, called_in, wire_entries_of, IsEditAt, IsEditOf, MayHappen, WouldEdit, EventReply, reply_to, WireEntry, World, HasPeer, with_made, with_peer, with_used, slice_get-set, slice_get-set_same, slice_set-still, EventStep, AnswersAt, IsWould, NotesAnswer, entered_of, heads_named, is_kept_in, is_made, DisarmsAt, OpensAgainAt, OpensOn, MemberSteps, left_with, recovered_changes}
use Rattle.std.proofs.lemmas.Bool.Decides.{nat_tests}
use Rattle.tp_recovery.specs.Layout.{record_of, bytes_of_records}
use Rattle.tp_headline.specs.Calling.{IsCall, heads_at, made_by, noting}
use Rattle.tp_headline.specs.WorldInvariant.{WorldInvariant}
use Rattle.tp_headline.specs.Headline.{ReadRecord}
use Rattle.tp_headline.proofs.MakingLaws.{Left, left_of, nothing_left, one_call, one_cut, one_edit, one_named, would_edit}
use Rattle.tp_recovery.proofs.RecoveredLaws.{recovered_again}
use Rattle.tp_headline.specs.Crashing.{ComesBack, kept_bytes, made_during, stopped_with}
use Rattle.tp_headline.specs.Event.{Call}
use Rattle.tp_headline.proofs.CallLaws.{Entered, runs_of_steps}
use Rattle.tp_headline.proofs.CrashMoves.{during_is, found_between, gained_back, interrupted}
use Rattle.tp_event.proofs.MemberLaws.{merge_calm, set_set}
use Rattle.tp_peer.specs.PeerState.{gained_changes}
use Rattle.tp_peer.specs.PeerStep as peer
use Rattle.tp_headline.specs.declared.error.WorldError.TheVariants as world
use Rattle.tp_headline.specs.Call as call

-- ---- what a peer answered

pub deliver_answers : (w : World) (n k : ℕ) (e : WireEntry) (answer : peer.Reply) (peers : List PeerState) → slice_get w.wire k ≡ Some e → MemberSteps w.peers n (peer.Receive e.sender e.bytes) answer peers
    → AnswersAt w n (call.Deliver k) answer (record w { peers = peers })
deliver_answers w n k e answer peers there s =
    record {
      before = s.before;
      present = s.present;
      made = peer.Receive e.sender e.bytes;
      is = (e, there, refl);
      after = s.after;
      steps = s.steps;
      left = ap (λ (l : List PeerState). record w { peers = l }) s.left;
    }

-- ---- the change that was made

pub one_would : (w : World) (e : Event) (c d : ChangeParts) → WorldInvariant w → WouldEdit w e c → WouldEdit w e d → c ≡ d
one_would w e c d h x y =
    let same = one_call x.number y.number x.made y.made (sym x.called ∙ y.called) in
    one_edit w y.number y.made c d h (subst (λ k. IsEditAt w k y.made c) same.0 (subst (λ m. IsEditAt w x.number m c) same.1 x.edit)) y.edit

-- the change that the event would make is the one that it made
the_change : (w : World) (e : Event) (change : Option ChangeParts) (c : ChangeParts) → WorldInvariant w → IsWould w e change → WouldEdit w e c → change ≡ Some c
the_change w e (Some d) c h would is = ap Some (one_would w e d c h would is)
the_change w e None c h would is = absurd (would c is)

entered_none : (change : Option ChangeParts) → entered_of change false ≡ []
entered_none (Some c) = refl
entered_none None = refl

-- what counts as made is what the call made of the changes that were kept whole
gains : (w : World) (e : Event) (n : ℕ) (named : call.EventCall) (made : peer.Call) (answer : peer.Reply) (p : PeerState) (change : Option ChangeParts) (new whole : List ChangeParts) (keeps : Option ChangeParts → Bool)
    → WorldInvariant w → HasPeer w n p → p.stopped ≡ false → called_in e ≡ Some (n, named) → IsCall w named made → IsWould w e change → Entered p made answer new → (new ≡ [] → whole ≡ [])
    → ((c : ChangeParts) → new ≡ c ∷ [] → entered_of (Some c) (keeps (Some c)) ≡ whole) → entered_of change (is_made answer && keeps change) ≡ made_by made whole
gains w e n named (peer.Edit ss time message) (peer.Made (Some hash)) p change new whole keeps h present runs called is would entered none one =
    let c = entered.0 in
    let made = peer.Edit ss time message in
    let edit : IsEditAt w n made c = record { peer = p; present = present; runs = runs; edited = entered.1 } in
    ap (λ x. entered_of x (keeps x)) (the_change w e change c h would (would_edit w e n named made c called is edit)) ∙ one c entered.2
gains w e n named (peer.Edit ss time message) answer p change new whole keeps h present runs called is would entered none one = entered_none change ∙ sym (none entered)
gains w e n named made (peer.Made (Some hash)) p change new whole keeps h present runs called is would entered none one = absurd entered
gains w e n named made answer p change new whole keeps h present runs called is would entered none one = entered_none change

-- ---- calls

-- the world, once there is room in it
pub roomy : (w : World) (made : List ChangeParts) (wire : List WireEntry) (reads : List ReadRecord) → made ≡ w.made → wire ≡ w.wire → reads ≡ w.reads → record w { made = made; wire = wire; reads = reads } ≡ w
roomy w made wire reads e f g =
    ap (λ l. record w { made = l; wire = wire; reads = reads }) e ∙ ap (λ l. record w { wire = l; reads = reads }) f ∙ ap (λ l. record w { reads = l }) g

pub roomy_crash : (w : World) (made : List ChangeParts) (used : List Actor) → made ≡ w.made → used ≡ w.used → record w { made = made; used = used } ≡ w
roomy_crash w made used e f = ap (λ l. record w { made = l; used = used }) e ∙ ap (λ l. record w { used = l }) f

-- the world, once the call left the peer and its change counts as made
left_world : (w m : World) (n : ℕ) (p' : PeerState) (all new made : List ChangeParts) → m ≡ with_peer w n p' → all ≡ m.made ++ new → new ≡ made → record m { made = all } ≡ with_made (with_peer w n p') made
left_world w m n p' all new made is e f =
    let one : record m { made = all } ≡ record w { peers = slice_set w.peers n p'; made = all } = ap (λ (x : World). record x { made = all }) is in
    let two : all ≡ w.made ++ made = e ∙ ap (λ (x : World). x.made ++ new) is ∙ ap (λ l. w.made ++ l) f in
    one ∙ ap (λ l. record w { peers = slice_set w.peers n p'; made = l }) two

heads_are : (w : World) (p : PeerState) (named : call.EventCall) (made : peer.Call) → IsCall w named made → heads_named p named ≡ heads_at p made
heads_are w p (call.Alone own) made is = ap (λ (m : peer.Call). heads_at p m) (sym is.0)
heads_are w p (call.Merge from) made is = ap (λ (m : peer.Call). heads_at p m) (sym is.2)
heads_are w p (call.Deliver entry) made is = ap (λ (m : peer.Call). heads_at p m) (sym is.2)

-- a peer that was read is as it was
text_stays : (p : PeerState) (made : peer.Call) (text : List ℕ) (p' : PeerState) → peer.Runs p made (peer.Text text) p' → p' ≡ p
text_stays p peer.Read text p' h = h.1
text_stays p (peer.ReadAt H) text p' h = h.2
text_stays p made text p' h = absurd h

text_makes_none : (p : PeerState) (made : peer.Call) (text : List ℕ) (p' : PeerState) (new : List ChangeParts) → peer.Runs p made (peer.Text text) p' → made_by made new ≡ []
text_makes_none p peer.Read text p' new h = refl
text_makes_none p (peer.ReadAt H) text p' new h = refl
text_makes_none p made text p' new h = absurd h

unchanged : (w : World) (n : ℕ) (p : PeerState) → HasPeer w n p → with_made (with_peer w n p) [] ≡ w
unchanged w n p present =
    ap (λ l. record w { peers = slice_set w.peers n p; made = l }) (append-nil w.made) ∙ ap (λ l. record w { peers = l }) (slice_set-still w.peers n p present)

-- no call but an edit would make a change
edits_change : (w : World) (e : Event) (n : ℕ) (named : call.EventCall) (made : peer.Call) (c : ChangeParts) → called_in e ≡ Some (n, named) → IsCall w named made → WouldEdit w e c → (p : PeerState) × IsEditOf p made c
edits_change w e n (call.Alone own) made c called is would =
    let one = one_call would.number n would.made own (sym would.called ∙ called) in
    (would.edit.peer, subst (λ m. IsEditOf would.edit.peer m c) (one.1 ∙ sym is.0) would.edit.edited)
edits_change w e n (call.Merge from) made c called is would = absurd (let one = (one_named would.number n (call.Alone would.made) (call.Merge from) (sym would.called ∙ called)).1 in cc)
edits_change w e n (call.Deliver entry) made c called is would = absurd (let one = (one_named would.number n (call.Alone would.made) (call.Deliver entry) (sym would.called ∙ called)).1 in cc)

entered_if : (w : World) (e : Event) (change : Option ChangeParts) (kept : Bool) → IsWould w e change → ((c : ChangeParts) → WouldEdit w e c → ⊥) → entered_of change kept ≡ []
entered_if w e (Some c) kept would none = absurd (none c would)
entered_if w e None kept would none = refl

-- one change is kept just where its record is whole
decided : (c : ChangeParts) (kept : ℕ) (whole : List ChangeParts) → (whole ≡ []) ⊎ (whole ≡ c ∷ []) → (whole ≡ [] → kept < length (record_of c)) → (whole ≡ c ∷ [] → length (record_of c) ≤ kept)
    → entered_of (Some c) (nat_le (length (record_of c)) kept) ≡ whole
decided c kept whole (inl none) torn within =
    let less = torn none in
    let is : nat_le (length (record_of c)) kept ≡ false = grind (arith, nat_tests) in
    ap (entered_of (Some c)) is ∙ sym none
decided c kept whole (inr one) torn within =
    let le = within one in
    let is : nat_le (length (record_of c)) kept ≡ true = grind (arith, nat_tests) in
    ap (entered_of (Some c)) is ∙ sym one

one_record : (c : ChangeParts) → length (bytes_of_records (c ∷ [])) ≡ length (record_of c)
one_record c = ap length (append-nil (record_of c))

-- how many bytes of the record of one change, or of none, came to the journal
grown_by : (before after : List ℕ) (count grown : ℕ) (C : List ChangeParts) → after ≡ before ++ take count (bytes_of_records C) → grown ≡ length after - length before → grown ≡ min count (length (bytes_of_records C))
grown_by before after count grown C is g =
    let all : length after ≡ length before + length (take count (bytes_of_records C)) = ap length is ∙ length-append before (take count (bytes_of_records C)) in
    let part = length-take count (bytes_of_records C) in
    omega arith

-- a change counts as made where its record came to the journal whole, and that is what the call made
kept_gains : (w : World) (e : Event) (n : ℕ) (named : call.EventCall) (made : peer.Call) (p p' : PeerState) (change : Option ChangeParts) (grown : ℕ) → WorldInvariant w → HasPeer w n p → p.stopped ≡ false → called_in e ≡ Some (n, named)
    → IsCall w named made → IsWould w e change → (l : Left p made p') → grown ≡ min l.count (length (bytes_of_records l.tried)) → entered_of change (is_kept_in change grown) ≡ made_by made l.whole
kept_gains w e n named (peer.Edit ss time message) p p' change grown h present runs called is would l g = elim l.may [
  | inl none ↦
      let nothing : l.whole ≡ [] = nothing_left l.whole l.others (sym none ∙ l.split) in
      let zero_grown : grown ≡ 0 = let size = ap (λ C. length (bytes_of_records C)) none in omega arith in
      ap (λ k. entered_of change (is_kept_in change k)) zero_grown ∙ none_kept change ∙ sym nothing
  | inr one ↦
      let c = one.0 in
      let made = peer.Edit ss time message in
      let edit : IsEditAt w n made c = record { peer = p; present = present; runs = runs; edited = one.1 } in
      let split = sym one.2 ∙ l.split in
      let size : length (bytes_of_records l.tried) ≡ length (record_of c) = ap (λ C. length (bytes_of_records C)) one.2 ∙ one_record c in
      ap (λ x. entered_of x (is_kept_in x grown)) (the_change w e change c h would (would_edit w e n named made c called is edit))
      ∙ decided c grown l.whole (one_cut c l.whole l.others split)
      (λ none.
      let less = subst (λ k. l.count < k) (ap (λ C. length (bytes_of_records (C ++ c ∷ []))) none ∙ one_record c) (l.torn c [] (sym (split ∙ ap (λ C. C ++ l.others) none))) in
      omega arith)
      (λ all_of.
      let enough = subst (λ k. k ≤ l.count) (ap (λ C. length (bytes_of_records C)) all_of ∙ one_record c) l.within in
      omega arith)
] where
  none_kept : (change : Option ChangeParts) → entered_of change (is_kept_in change 0) ≡ []
  none_kept None = refl
  none_kept (Some c) =
      let some = length-record_of c in
      let is : nat_le (length (record_of c)) 0 ≡ false = grind (arith, nat_tests) in
      ap (entered_of (Some c)) is
kept_gains w e n named made p p' change grown h present runs called is would l g =
    entered_if w e change (is_kept_in change grown) would (λ c x. let edit = edits_change w e n named made c called is x in absurd edit.1)

pub call_meets : (w m : World) (n : ℕ) (named : call.EventCall) (change : Option ChangeParts) (H : List Hash) (answer : peer.Reply) (all : List ChangeParts) (before after grown : ℕ) (flag : Bool) (reply : EventReply) (w' : World)
    → WorldInvariant w → MayHappen w (Call n named) → IsWould w (Call n named) change → ((p : PeerState) → HasPeer w n p → H ≡ heads_named p named) → ((p : PeerState) → HasPeer w n p → before ≡ length p.journal)
    → AnswersAt w n named answer m → ((p : PeerState) → HasPeer m n p → after ≡ length p.journal) → grown ≡ after - before → flag ≡ is_kept_in change grown
    → all ≡ m.made ++ entered_of change flag → NotesAnswer (record m { made = all }) n H answer reply w' → EventStep w (Call n named) reply w'
call_meets w m n named change H answer all before after grown flag reply w' h may would heads before_is s after_is grown_is is e notes =
    let p = s.before in
    let p' = s.after in
    let made = s.made in
    let runs : p.stopped ≡ false = may world.Stopped n p (inl refl) s.present in
    let l = left_of w p made answer p' h (h.peers n p s.present) runs s.steps in
    let there : slice_get m.peers n ≡ Some p' = subst (λ (x : World). slice_get x.peers n ≡ Some p') (sym s.left) (slice_get-set_same w.peers n p p' s.present) in
    let sizes : grown ≡ length p'.journal - length p.journal = grown_is ∙ ap (λ k. k - before) (after_is p' there) ∙ ap (λ k. length p'.journal - k) (before_is p s.present) in
    let gain : entered_of change flag ≡ made_by made l.whole =
    ap (entered_of change) is
    ∙ kept_gains w (Call n named) n named made p p' change grown h s.present runs refl s.is would l (grown_by p.journal p'.journal l.count grown l.tried l.bytes sizes) in
    let left = left_world w m n p' all (entered_of change flag) (made_by made l.whole) s.left e gain in
    elim notes [
      | inl short ↦
          let steps = subst (λ a. peer.PeerStep p made a p') short.1 s.steps in
          let text = runs_of_steps p made (peer.Text short.0) p' steps (λ x. cc) in
          let same = text_stays p made short.0 p' text in
          inl (short.2, short.3 ∙ left ∙ ap (λ K. with_made (with_peer w n p') K) (text_makes_none p made short.0 p' l.whole text) ∙ ap (λ (x : PeerState). with_made (with_peer w n x) []) same ∙ unchanged w n p s.present)
      | inr noted ↦
          let wire = ap (λ (x : World). x.wire) s.left in
          inr (record {
            before = p;
            present = s.present;
            made = made;
            is = s.is;
            answer = answer;
            after = p';
            steps = s.steps;
            kept = l.whole;
            keep = l.keep;
            recovers = l.recovers;
            replied = noted.0 ∙ ap (λ (l : List WireEntry). reply_to (length l) answer) wire;
            left = noted.1 ∙ ap (λ x. noting x n H answer) left
                ∙ ap (λ K. noting (with_made (with_peer w n p') (made_by made l.whole)) n K answer) (heads p s.present ∙ heads_are w p named made s.is);
          })
    ]

-- ---- crashes

-- what is left of a peer is what is in the definition
left_is : (p : PeerState) (bytes : List ℕ) (C : List ChangeParts) (keep : ℕ) → Recovers bytes p.id C keep → left_with p.id p.actor bytes ≡ stopped_with p bytes C
left_is p bytes C keep r =
    let found : recovered_changes (recovery_of bytes) ≡ C = ap recovered_changes (recovered_again bytes p.id C keep r) in
    ap (λ (D : List ChangeParts). record (left_with p.id p.actor bytes) { applied = D }) found

-- The peer comes back, as the definition has it.
comes_back : (p at p' : PeerState) (bytes : List ℕ) (C : List ChangeParts) (keep : ℕ) (actor : Actor) (reply : EventReply) → at.id ≡ p.id → at.actor ≡ p.actor → Recovers bytes p.id C keep
    → OpensOn at.id at.actor bytes actor reply p' → ComesBack p bytes actor reply p'
comes_back p at p' bytes C keep actor reply id who r (inl again) = inl again
comes_back p at p' bytes C keep actor reply id who r (inr down) =
    let same : left_with at.id at.actor bytes ≡ left_with p.id p.actor bytes = ap (λ i. left_with i at.actor bytes) id ∙ ap (λ a. left_with p.id a bytes) who in
    inr (down.0, down.1, record { why = down.2; changes = C; keep = keep; recovers = r; left = down.3 ∙ same ∙ left_is p bytes C keep r })

-- a journal that is cut at a number that no length reaches
take_capped : (xs : List ℕ) (len kept n : ℕ) → length xs < 2 ^ 64 → n ≡ min (len + kept) (2 ^ 64 - 1) → take n xs ≡ take (len + kept) xs
take_capped xs len kept n small cut = elim (truth (nat_le (length xs) n)) [
  | inl all ↦
      let enough : length xs ≤ n = grind (arith, nat_tests) in
      take_all n xs enough ∙ sym (take_all (len + kept) xs (omega arith))
  | inr less ↦
      let few : n < length xs = grind (arith, nat_tests) in
      let same : n ≡ len + kept = omega arith in
      ap (λ k. take k xs) same
]

crashed_world : (w : World) (n : ℕ) (p' : PeerState) (peers : List PeerState) (all gains : List ChangeParts) (used : List Actor) (actor : Actor) → peers ≡ slice_set w.peers n p' → all ≡ w.made ++ gains
    → used ≡ w.used ++ actor ∷ [] → record w { peers = peers; made = all; used = used } ≡ with_used (with_made (with_peer w n p') gains) actor
crashed_world w n p' peers all gains used actor e f g = cc

-- between calls
pub between_meets : (w : World) (n kept : ℕ) (actor : Actor) (peers : List PeerState) (used : List Actor) (reply : EventReply) → WorldInvariant w → OpensAgainAt w.peers n (2 ^ 64 - 1) actor reply peers → used ≡ w.used ++ actor ∷ []
    → EventStep w (Crash n None kept actor) reply (record w { peers = peers; used = used })
between_meets w n kept actor peers used reply h o named =
    let p = o.before in
    let q = h.peers n p o.present in
    let r = found_between w p kept h q in
    let all : take (2 ^ 64 - 1) p.journal ≡ kept_bytes p p kept = take_all (2 ^ 64 - 1) p.journal (omega (arith, o.small)) ∙ sym (take_all (length p.journal + kept) p.journal (omega arith)) in
    let opens = subst (λ b. OpensOn p.id p.actor b actor reply o.after) all o.opens in
    inr (
      record {
        before = p;
        present = o.present;
        at = p;
        might = refl;
        after = o.after;
        back = comes_back p p o.after (kept_bytes p p kept) (p.applied ++ r.whole) r.keep actor reply refl refl r.recovers opens;
      },
      crashed_world w n o.after peers w.made [] used actor o.left (sym (append-nil w.made)) named,
    )

-- a call of a peer whose device isn't to fail, in the world as it was
calm_call : (w : World) (n : ℕ) (p q q' : PeerState) (named : call.EventCall) (made : peer.Call) (answer : peer.Reply) → HasPeer w n p → IsCall (with_peer w n (disarming p)) named made → peer.PeerStep q made answer q'
    → (own : peer.Call) × IsCall w named own × peer.PeerStep q own answer q'
calm_call w n p q q' (call.Alone own) made answer present is step = (made, is, step)
calm_call w n p q q' (call.Deliver entry) made answer present is step = (made, is, step)
calm_call w n p q q' (call.Merge from) made answer present is step = elim (slice_get-set w.peers n from (disarming p) is.0 is.1) [
  | inl same ↦ (
    peer.Merge p,
    (p, subst (λ k. HasPeer w k p) (sym same.0) present, refl),
    merge_calm q p answer q' (subst (λ m. peer.PeerStep q m answer q') (is.2 ∙ ap peer.Merge same.1) step),
  )
  | inr still ↦ (made, (is.0, still.1, is.2), step)
]

-- during a call, once the peer's device isn't to fail
pub during_meets : (w v m : World) (n : ℕ) (named : call.EventCall) (kept len cut : ℕ) (actor : Actor) (change : Option ChangeParts) (answer : peer.Reply) (flag : Bool) (all : List ChangeParts) (peers : List PeerState)
    (used : List Actor) (reply : EventReply) → WorldInvariant w → MayHappen w (Crash n (Some named) kept actor) → IsWould w (Crash n (Some named) kept actor) change
    → (a : DisarmsAt w.peers n v.peers) → v ≡ with_peer w n (disarming a.before) → AnswersAt v n named answer m
    → ((p : PeerState) → HasPeer v n p → len ≡ length p.journal) → cut ≡ min (len + kept) (2 ^ 64 - 1) → flag ≡ (is_made answer && is_kept_in change kept)
    → all ≡ m.made ++ entered_of change flag → OpensAgainAt m.peers n cut actor reply peers → used ≡ m.used ++ actor ∷ []
    → EventStep w (Crash n (Some named) kept actor) reply (record m { peers = peers; made = all; used = used })
during_meets w v m n named kept len cut actor change answer flag all peers used reply h may would a v_is s len_is cut_is flag_is e o f =
    let p = a.before in
    let at = s.after in
    let calm = disarming p in
    let calm_present : HasPeer v n calm = subst (λ (x : World). HasPeer x n calm) (sym v_is) (slice_get-set_same w.peers n p calm a.present) in
    let before_is : s.before ≡ calm = let both : Some s.before ≡ Some calm = sym s.present ∙ calm_present in cc in
    let own = calm_call w n p calm at named s.made answer a.present (subst (λ (x : World). IsCall x named s.made) v_is s.is) (subst (λ (x : PeerState). peer.PeerStep x s.made answer at) before_is s.steps) in
    let made = own.0 in
    let i = interrupted w n p named at kept actor h may a.present (made, answer, own.1, own.2) in
    let whole = i.cut.whole in
    let others = i.cut.others in
    let m_is : m ≡ with_peer (with_peer w n calm) n at = s.left ∙ ap (λ (x : World). with_peer x n at) v_is in
    let peers_at : m.peers ≡ slice_set w.peers n at = ap (λ (x : World). x.peers) m_is ∙ set_set w.peers n calm at in
    let there : slice_get m.peers n ≡ Some at = subst (λ (l : List PeerState). slice_get l n ≡ Some at) (sym peers_at) (slice_get-set_same w.peers n p at a.present) in
    let same : o.before ≡ at = let both : Some o.before ≡ Some at = sym o.present ∙ there in cc in
    let small : length at.journal < 2 ^ 64 = subst (λ (x : PeerState). length x.journal < 2 ^ 64) same o.small in
    let opens : OpensOn at.id at.actor (take cut at.journal) actor reply o.after = subst (λ (x : PeerState). OpensOn x.id x.actor (take cut x.journal) actor reply o.after) same o.opens in
    let cut_at : cut ≡ min (length p.journal + kept) (2 ^ 64 - 1) = cut_is ∙ ap (λ k. min (k + kept) (2 ^ 64 - 1)) (len_is calm calm_present) in
    let kept_opens = subst (λ b. OpensOn at.id at.actor b actor reply o.after) (take_capped at.journal (length p.journal) kept cut small cut_at) opens in
    let back = comes_back p at o.after (kept_bytes p at kept) (p.applied ++ whole) i.cut.keep actor reply i.enters.id i.enters.actor i.cut.recovers kept_opens in
    let gain : entered_of change flag ≡ made_during (Some named) (gained_changes p o.after) =
    ap (entered_of change) flag_is
    ∙ gains w (Crash n (Some named) kept actor) n named made answer p change i.enters.new whole (λ x. is_kept_in x kept) h a.present i.runs refl own.1 would i.enters.entered
    (λ none. nothing_left whole others (sym none ∙ i.cut.split))
    (λ c one.
    let split = sym one ∙ i.cut.split in
    decided c kept whole (one_cut c whole others split)
    (λ none. subst (λ k. kept < k) (ap (λ l. length (bytes_of_records (l ++ c ∷ []))) none ∙ one_record c) (i.cut.torn c [] (sym (split ∙ ap (λ l. l ++ others) none))))
    (λ all_of. subst (λ k. k ≤ kept) (ap (λ l. length (bytes_of_records l)) all_of ∙ one_record c) i.cut.within))
    ∙ ap (made_by made) (sym (gained_back p o.after (kept_bytes p at kept) whole i.cut.keep actor reply i.cut.recovers back))
    ∙ sym (during_is w named made (gained_changes p o.after) own.1) in
    let peers_are : peers ≡ slice_set w.peers n o.after = o.left ∙ ap (λ (l : List PeerState). slice_set l n o.after) peers_at ∙ set_set w.peers n at o.after in
    let made_is : all ≡ w.made ++ made_during (Some named) (gained_changes p o.after) = e ∙ ap (λ (x : World). x.made ++ entered_of change flag) m_is ∙ ap (λ l. w.made ++ l) gain in
    let used_is : used ≡ w.used ++ actor ∷ [] = f ∙ ap (λ (x : World). x.used ++ actor ∷ []) m_is in
    inr (
      record {
        before = p;
        present = a.present;
        at = at;
        might = (made, answer, own.1, own.2);
        after = o.after;
        back = back;
      },
      ap (λ (x : World). record x { peers = peers; made = all; used = used }) m_is
          ∙ crashed_world w n o.after peers all (made_during (Some named) (gained_changes p o.after)) used actor peers_are made_is used_is,
    )

-- ---- what is there

-- an entry that a call names, also one during which a peer crashes
pub entry_named : (n kept : ℕ) (actor : Actor) (named : call.EventCall) (k : ℕ) → In k (wire_entries_of (Call n named)) → In k (wire_entries_of (Crash n (Some named) kept actor))
entry_named n kept actor (call.Deliver entry) k i = i
entry_named n kept actor named k i = absurd i

-- ---- room

pub room_for : {E : Type 0} (r : Result (Unit {0}) E) (b : Bool) (len cap : ℕ) → b ≡ is_err r → b ≡ false → OnOk r (len + 1 ≤ cap) → len < cap
room_for (Ok x) b len cap e f h = omega arith
room_for (Err x) b len cap e f h = absurd cc
