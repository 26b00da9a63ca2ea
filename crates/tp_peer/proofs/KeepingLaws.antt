-- What a journal is once records were appended, and what enters a history.
use Rattle.tp_peer.proofs.Common.{◌≡◌, ℕ, suc, ◌+◌, ◌≤◌, inl, inr, List, [], ◌∷◌, ◌++◌, length, Bool, cond, refl, sym, ap, ◌∙◌, subst, append_assoc, append-nil, length-append, arith, ChangeParts, IsChange, Intake, SomeTurns, Turn, begin, record_of, bytes_of_records, IsHistory, history_push, AppendsRecord, Device, without_fuse, after_appends, JournalState, PeerState, Done, Report, Stopped, at_end, ReceivesAndAppends, journal_of, receiver_of, AllChanges, most_waiting, has_all, delivery, slots, takes_slot, with_slots, EntersAfter, Grows, KeepsAll, progress, SomeTurns-keeps, TakesOut, Turn-cases, AllIn}
use Rattle.tp_receive.specs.declared.error.ReceiveError.TheVariants as receive

-- The records of the changes were appended.
pub record AreAppended (k : JournalState) (new : List ChangeParts) (k' : JournalState) : Type 0 where
  pub content : k'.content ≡ k.content ++ bytes_of_records new
  pub device : k'.device ≡ after_appends new k.device
  pub limits : AllChanges new

-- no arming comes back by more appends
still_without : (new : List ChangeParts) (d k : Device) → d ≡ without_fuse k → after_appends new d ≡ without_fuse k
still_without [] d k e = e
still_without (c ∷ new) d k e = ap without_fuse e

pub all_appended : (new : List ChangeParts) (k k' : JournalState) → KeepsAll AppendsRecord k new k' → AreAppended k new k'
all_appended [] k k' e = record {
  content = ap (λ (j : JournalState). j.content) (sym e) ∙ sym (append-nil k.content);
  device = ap (λ (j : JournalState). j.device) (sym e);
  limits = λ c i. absurd i;
}
all_appended (c ∷ new) k k' h =
    let first = h.1 in
    let rest = all_appended new h.0 k' h.2 in
    record {
      content = rest.content ∙ ap (λ l. l ++ bytes_of_records new) first.content ∙ append_assoc k.content (record_of c) (bytes_of_records new);
      device = rest.device ∙ still_without new h.0.device k.device first.device;
      limits = λ d i. elim i [ inl e ↦ subst IsChange (sym e) first.limits | inr j ↦ rest.limits d j ];
    }

-- changes that enter one after another make a longer history
pub history_grows : (new C : List ChangeParts) → IsHistory C → EntersAfter C new → AllChanges new → IsHistory (C ++ new)
history_grows [] C h e l = subst IsHistory (sym (append-nil C)) h
history_grows (c ∷ new) C h e l =
    subst IsHistory (append_assoc C (c ∷ []) new)
    (history_grows new (C ++ c ∷ []) (history_push C c h (l c (inl refl)) e.0) e.1 (λ d i. l d (inr i)))

-- ---- how many changes entered, and how many wait

-- what entered, waits and is still to come is no more than `most`
abbrev AtMost : {S : Type 0} → ℕ → Intake S → Type 0
AtMost most s = length s.applied + (length s.waiting + length s.coming) ≤ most

AtMost-turn : {S : Type 0} (keeps : S → ChangeParts → S → Type 0) (most : ℕ) (s t : Intake S) → Turn keeps s t → AtMost most s → AtMost most t
AtMost-turn {S} keeps most s t u few =
    Turn-cases keeps (AtMost most) s t
    (record {
      entered = λ c V Q k out none keep. omega (arith, out.fewer, length-append s.applied (c ∷ []));
      refused = λ c V Q e out caused final. omega (arith, out.fewer);
      again = λ c Q slot out is lacks there. omega (arith, out.fewer);
      held = λ c Q slot out is lacks new space. omega (arith, out.fewer, length-append s.waiting (c ∷ []));
      dropped = λ c Q slot out is lacks new full. omega (arith, out.fewer);
    })
    u

-- no more wait than may
abbrev FewWait : {S : Type 0} → Intake S → Type 0
FewWait s = length s.waiting ≤ most_waiting

-- what is taken out makes none wait
taken_out : (W V : List ChangeParts) (P Q : List (ChangeParts × Bool)) (c : ChangeParts) → TakesOut W P c V Q → length V ≤ length W
taken_out W V P Q c out =
    let fewer = out.fewer in
    let few = out.few in
    elim out.comes [
      | inl same ↦ let l : slots Q ≡ slots P = ap slots same in omega arith
      | inr next ↦ let l : length P ≡ suc (length Q) = ap length next.1 in omega arith
    ]

FewWait-turn : {S : Type 0} (keeps : S → ChangeParts → S → Type 0) (s t : Intake S) → Turn keeps s t → FewWait s → FewWait t
FewWait-turn {S} keeps s t u few =
    Turn-cases keeps FewWait s t
    (record {
      entered = λ c V Q k out none keep. let less = taken_out s.waiting V s.coming Q c out in omega arith;
      refused = λ c V Q e out caused final. let less = taken_out s.waiting V s.coming Q c out in omega arith;
      again = λ c Q slot out is lacks there. few;
      held = λ c Q slot out is lacks new space. omega (arith, length-append s.waiting (c ∷ []));
      dropped = λ c Q slot out is lacks new full. few;
    })
    u

-- as many come as are in the list
all_come : (C V K : List ChangeParts) → length (with_slots V (delivery C K)) ≡ length K
all_come C V [] = refl
all_come C V (c ∷ K) = ap suc (all_come (cond (has_all C c.deps) (C ++ c ∷ []) C) (cond (takes_slot V (c, has_all C c.deps)) (V ++ c ∷ []) V) K)

run_few : {S : Type 0} (keeps : S → ChangeParts → S → Type 0) (k : S) (C W K new : List ChangeParts) (at : Intake S) → SomeTurns keeps (begin k C W K) at → at.applied ≡ C ++ new
    → length new ≤ length W + length K
run_few {S} keeps k C W K new at run is =
    let most = length C + (length W + length K) in
    let come = all_come C W K in
    let few : AtMost most at = SomeTurns-keeps keeps (AtMost most) (AtMost-turn keeps most) (begin k C W K) at run (omega arith) in
    let len : length at.applied ≡ length C + length new = ap length is ∙ length-append C new in
    omega arith

-- ---- how far receiving came

-- what receiving sees as the changes K come to the peer
abbrev pub coming : PeerState → List ChangeParts → Intake JournalState
coming p K = begin (journal_of p) p.applied p.waiting K

-- the peer as it is where receiving came to `at`
abbrev pub reached : PeerState → Intake JournalState → PeerState
reached p at = record p { applied = at.applied; waiting = at.waiting; journal = at.keeper.content; device = at.keeper.device }

-- Receiving the changes K came so far, and the device didn't fail.
pub record Reaches (p : PeerState) (K : List ChangeParts) (p' : PeerState) : Type 0 where
  pub at : Intake JournalState
  pub run : SomeTurns AppendsRecord (coming p K) at
  pub left : p' ≡ reached p at

pub reaches_all : (p : PeerState) (K : List ChangeParts) (r : Report) (p' : PeerState) → ReceivesAndAppends p K (Done r) p' → Reaches p K p'
reaches_all p K r p' t = record { at = at_end (receiver_of p') r; run = t.receives.run; left = t.left }

pub reaches_part : (p : PeerState) (K : List ChangeParts) (p' : PeerState) → ReceivesAndAppends p K (Stopped receive.OutOfMemory) p' → Reaches p K p'
reaches_part p K p' t =
    let x = t.receives.1 in
    let kept : journal_of p' ≡ x.at.keeper = elim x.by [ inl same ↦ same | inr turn ↦ turn.refused ] in
    record {
      at = x.at;
      run = x.run;
      left =
          t.left
          ∙ ap (λ (C : List ChangeParts). record p { applied = C; waiting = p'.waiting; journal = p'.journal; device = p'.device }) x.applied
          ∙ ap (λ (W : List ChangeParts). record p { applied = x.at.applied; waiting = W; journal = p'.journal; device = p'.device }) x.waiting
          ∙ ap (λ (j : JournalState). record p { applied = x.at.applied; waiting = x.at.waiting; journal = j.content; device = j.device }) kept;
    }

-- How far receiving the changes K came, and what was appended until then.
pub record Advances (p : PeerState) (K : List ChangeParts) (at : Intake JournalState) : Type 0 where
  pub new : List ChangeParts
  pub grows : Grows p.applied (p.waiting ++ K) at.applied new
  pub waits : AllIn at.waiting (p.waiting ++ K)
  pub appended : AreAppended (journal_of p) new at.keeper
  pub few : length new ≤ length p.waiting + length K
  pub few_wait : length p.waiting ≤ most_waiting → length at.waiting ≤ most_waiting

pub run_advances : (p : PeerState) (K : List ChangeParts) (at : Intake JournalState) → SomeTurns AppendsRecord (coming p K) at → Advances p K at
run_advances p K at r =
    let g = progress AppendsRecord (journal_of p) p.applied p.waiting K at r in
    record {
      new = g.new;
      grows = g.grows;
      waits = g.waits;
      appended = all_appended g.new (journal_of p) at.keeper g.kept;
      few = run_few AppendsRecord (journal_of p) p.applied p.waiting K g.new at r g.grows.begins;
      few_wait = λ h. SomeTurns-keeps AppendsRecord FewWait (FewWait-turn AppendsRecord) (coming p K) at r h;
    }
