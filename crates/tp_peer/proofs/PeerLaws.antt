-- What receiving comes to, what a peer's journal recovers to, and who made an edit's change.
use Rattle.tp_peer.proofs.Common.{◌≡◌, ℕ, inl, inr, List, [], ◌∷◌, ◌++◌, length, take, true, false, Bool, Some, None, refl, sym, ap, ◌∙◌, subst, append-nil, append_assoc, arith, ChangeParts, journal, record_of, bytes_of_records, IsDocId, IsHistory, Recovers, history_push, AppendsRecord, JournalState, journal_state, IsPeer, PeerState, HasJournal, IsTorn, Done, Report, Stopped, at_end, ReceivesAndAppends, journal_of, receiver_of, PeerError, IsChange, Intake, SomeTurns, Turn, NextChange, enter, Call, Edit, Forget, Generate, Merge, PeerStep, Read, ReadAt, ReadHeads, Receive, Reply, Made, Refused, RefusesEdit, RefusesGenerate, RefusesMerge, RefusesReceive, Runs, In, HashesApart, Between, Grew-run, nothing_lost, DeviceFails, without_fuse, recovers_cut, JournalFailed, TooManyLinks, Doc, Sync, OutOfMemory, Splice, EditRequest, asking, cause, LosesNone, SomeTurns-one, SomeTurns-then, IsComplete, IsPartial, IsTornAt, RecoversTorn}
use Rattle.std.proofs.lemmas.List.{append_cancel_left}
use Rattle.tp_history.specs.Sound.{Sound}
use Rattle.tp_receive.proofs.GrowsLaws.{Between-grown}
use Rattle.tp_receive.proofs.ResultLaws.{results}
use Rattle.tp_peer.proofs.StepLaws.{journal_grows, running_journal, step_cases, step_keeps}
use Rattle.tp_peer.proofs.KeepingLaws.{coming, run_advances}
use Rattle.tp_receive.specs.declared.error.ReceiveError.TheVariants as receive

-- ---- receiving

pub complete : (p : PeerState) (K : List ChangeParts) (r : Report) (p' : PeerState) → Sound p.applied → HashesApart (p.waiting ++ K) → ReceivesAndAppends p K (Done r) p' → IsComplete p K r p'
complete p K r p' sound apart t =
    let x = results AppendsRecord (journal_of p) p.applied p.waiting K (at_end (receiver_of p') r) sound apart t.receives.space t.receives.run t.receives.ends in
    record { receives = x.receives; causes = x.causes; placed = x.placed }

partial_at : (p : PeerState) (K : List ChangeParts) (at : Intake JournalState) (C W : List ChangeParts) → Sound p.applied → SomeTurns AppendsRecord (coming p K) at → C ≡ at.applied → W ≡ at.waiting
    → Between p.applied (p.waiting ++ K) C × LosesNone p.applied C p.waiting W
partial_at p K at C W sound run applied waiting =
    let g = Grew-run AppendsRecord (journal_of p) p.applied p.waiting K at run in (
      subst (Between p.applied (p.waiting ++ K)) (sym applied) (Between-grown p.applied (p.waiting ++ K) at.applied g.new sound g.grows),
      rw (applied, waiting) (nothing_lost AppendsRecord (coming p K) at run),
    )

pub partial : (p : PeerState) (K : List ChangeParts) (p' : PeerState) → Sound p.applied → ReceivesAndAppends p K (Stopped receive.OutOfMemory) p' → IsPartial p K p'
partial p K p' sound t =
    let stops = t.receives.1 in
    let x = partial_at p K stops.at p'.applied p'.waiting sound stops.run stops.applied stops.waiting in
    record { between = x.0; lost = x.1 }

-- what a turn leaves as it was until the change is met
rest_is : {S : Type 0} (at rest : Intake S) (c : ChangeParts) → NextChange at c rest → (rest.applied ≡ at.applied) × (rest.keeper ≡ at.keeper)
rest_is {S} at rest c (inl n) = (ap (λ (s : Intake S). s.applied) n.without, ap (λ (s : Intake S). s.keeper) n.without)
rest_is {S} at rest c (inr n) = (ap (λ (s : Intake S). s.applied) n.without, ap (λ (s : Intake S). s.keeper) n.without)

-- the turn at which the device failed, had it not
pub whole_turn : (at rest : Intake JournalState) (c : ChangeParts) → NextChange at c rest → cause at.applied c ≡ None → IsChange c
    → (t : Intake JournalState) × Turn AppendsRecord at t × (t.applied ≡ at.applied ++ c ∷ [])
whole_turn at rest c next fits limits =
    let is = rest_is at rest c next in
    let k : JournalState = journal_state (at.keeper.content ++ record_of c) (without_fuse at.keeper.device) in (
      enter rest c k,
      record {
        change = c;
        rest = rest;
        next = next;
        meets = inl (
          subst (λ C. cause C c ≡ None) (sym is.0) fits,
          k,
          subst (λ (j : JournalState). AppendsRecord j c k) (sym is.1) (record { limits = limits; content = refl; device = refl }),
          refl,
        );
      },
      ap (λ C. C ++ c ∷ []) is.0,
    )

pub torn : (p : PeerState) (K : List ChangeParts) (p' : PeerState) → Sound p.applied → ReceivesAndAppends p K (Stopped receive.NotKept) p' → IsTornAt p K p'
torn p K p' sound t =
    let s = t.receives.1 in
    let c = s.by.change in
    let tears = s.by.refused in
    let x = partial_at p K s.at p'.applied p'.waiting sound s.run s.applied s.waiting in
    let w = whole_turn s.at s.by.rest c s.by.next s.by.fits tears.limits in
    let run = SomeTurns-then AppendsRecord (coming p K) s.at w.0 s.run (SomeTurns-one AppendsRecord s.at w.0 w.1) in
    let y = partial_at p K w.0 (p'.applied ++ c ∷ []) w.0.waiting sound run (ap (λ C. C ++ c ∷ []) s.applied ∙ sym w.2) refl in
    let a = run_advances p K s.at s.run in
    let part = tears.part in
    let id : p'.id ≡ p.id = ap (λ (q : PeerState). q.id) t.left in
    record {
      change = c;
      between = y.0;
      lost = x.1;
      limits = tears.limits;
      fits = subst (λ C. cause C c ≡ None) (sym s.applied) s.by.fits;
      count = part.0;
      journal = λ is.
          part.1
          ∙ ap (λ l. l ++ take part.0 (record_of c)) a.appended.content
          ∙ append_assoc p.journal (bytes_of_records a.new) (take part.0 (record_of c))
          ∙ journal_grows p p' a.new (take part.0 (record_of c)) id (s.applied ∙ a.grows.begins) is;
    }

pub fails_where_it_can : (p : PeerState) (call : Call) (p' : PeerState) → PeerStep p call (Refused JournalFailed) p' → DeviceFails p.device p'.device
fails_where_it_can p call p' s = elim (step_keeps p call (Refused JournalFailed) p' s).journal [
  | inl appends ↦ absurd (appends.answered refl)
  | inr tears ↦ tears.device
]

-- ---- journals

pub recovers_running : (p : PeerState) → IsPeer p → p.stopped ≡ false → Recovers p.journal p.id p.applied (length p.journal)
recovers_running p h running =
    let is = running_journal p.stopped p.id p.applied p.journal running h.kept in
    record {
      tail = [];
      is_id = h.is_id;
      history = h.history;
      short = inl (omega arith);
      spelled = is ∙ sym (append-nil (journal p.id p.applied));
      keep_is = ap length is;
    }

torn_recovers : (p : PeerState) (bytes : List ℕ) → IsDocId p.id → IsHistory p.applied → p.journal ≡ journal p.id p.applied ++ bytes → IsTorn p.applied bytes → RecoversTorn p
torn_recovers p bytes is h content (inl none) = record {
  changes = [];
  few = omega arith;
  count = 0;
  content = content ∙ ap (λ l. journal p.id p.applied ++ l) none;
  recovers = recovers_cut p.id p.applied [] 0 is (subst IsHistory (sym (append-nil p.applied)) h);
}
torn_recovers p bytes is h content (inr t) = record {
  changes = t.change ∷ [];
  few = omega arith;
  count = t.count;
  content = content ∙ ap (λ l. journal p.id p.applied ++ l) (t.torn ∙ ap (take t.count) (sym (append-nil (record_of t.change))));
  recovers = recovers_cut p.id p.applied (t.change ∷ []) t.count is (history_push p.applied t.change h t.limits t.fits);
}

recovers_stopped_at : (s : Bool) (p : PeerState) → s ≡ true → IsDocId p.id → IsHistory p.applied → HasJournal s p.id p.applied p.journal → RecoversTorn p
recovers_stopped_at false p stopped is h k = absurd cc
recovers_stopped_at true p stopped is h k = torn_recovers p k.0 is h k.2 k.1

pub recovers_stopped : (p : PeerState) → IsPeer p → p.stopped ≡ true → RecoversTorn p
recovers_stopped p h stopped = recovers_stopped_at p.stopped p stopped h.is_id h.history h.kept

-- ---- edits and refusals

none_after : (C A : List ChangeParts) → C ≡ C ++ A → A ≡ []
none_after C A e = append_cancel_left C A [] (sym e ∙ sym (append-nil C))

pub edit_actor : (p : PeerState) (ss : List Splice) (time : ℕ) (message : List ℕ) (reply : Reply) (p' : PeerState) (new : List ChangeParts)
    → PeerStep p (Edit ss time message) reply p' → p'.applied ≡ p.applied ++ new → (c : ChangeParts) → In c new → c.actor ≡ p.actor
edit_actor p ss time message reply p' new s grown c i =
    elim (step_cases p (Edit ss time message) reply p' s) [
      | inl stopped ↦ none (ap (λ (q : PeerState). q.applied) stopped.1)
      | inr runs ↦ by reply runs.1
    ] where
      none : p'.applied ≡ p.applied → c.actor ≡ p.actor
      none e = absurd (subst (In c) (none_after p.applied new (sym e ∙ grown)) i)

      refused : (e : PeerError) → RefusesEdit p (asking p.actor ss time message) e p' → c.actor ≡ p.actor
      refused (Doc e) r = none (ap (λ (q : PeerState). q.applied) r.2)
      refused OutOfMemory r = none (ap (λ (q : PeerState). q.applied) r)
      refused JournalFailed r = none (ap (λ (q : PeerState). q.applied) r.2.left)
      refused _ r = absurd r

      one : (d : ChangeParts) → p'.applied ≡ p.applied ++ d ∷ [] → d.actor ≡ p.actor → c.actor ≡ p.actor
      one d e is =
          elim (subst (In c) (append_cancel_left p.applied new (d ∷ []) (sym grown ∙ e)) i) [
            | inl same ↦ ap (λ (x : ChangeParts). x.actor) same ∙ is
            | inr none_left ↦ absurd none_left
          ]

      by : (r : Reply) → Runs p (Edit ss time message) r p' → c.actor ≡ p.actor
      by (Made None) r = none (ap (λ (q : PeerState). q.applied) r.1)
      by (Made (Some h)) r = one r.0 (ap (λ (q : PeerState). q.applied) r.3) r.1.edit.actor
      by (Refused e) r = refused e r
      by _ r = absurd r

-- a refusal that changes nothing
pub refusal_changes_nothing : (p : PeerState) (call : Call) (e : PeerError) (p' : PeerState) → PeerStep p call (Refused e) p' → (e ≡ OutOfMemory → ⊥) → (e ≡ JournalFailed → ⊥) → p' ≡ p
refusal_changes_nothing p call e p' s memory device =
    elim (step_cases p call (Refused e) p' s) [ inl stopped ↦ stopped.1 | inr runs ↦ by call e runs.1 memory device ] where
      edit : (asked : EditRequest) (e : PeerError) → RefusesEdit p asked e p' → (e ≡ OutOfMemory → ⊥) → (e ≡ JournalFailed → ⊥) → p' ≡ p
      edit asked (Doc e) r memory device = r.2
      edit asked OutOfMemory r memory device = absurd (memory refl)
      edit asked JournalFailed r memory device = absurd (device refl)
      edit asked _ r memory device = absurd r

      merge : (other : PeerState) (e : PeerError) → RefusesMerge p other e p' → (e ≡ OutOfMemory → ⊥) → (e ≡ JournalFailed → ⊥) → p' ≡ p
      merge other (Doc e) r memory device = r.1
      merge other OutOfMemory r memory device = absurd (memory refl)
      merge other JournalFailed r memory device = absurd (device refl)
      merge other _ r memory device = absurd r

      receive : (link : ℕ) (bytes : List ℕ) (e : PeerError) → RefusesReceive p link bytes e p' → (e ≡ OutOfMemory → ⊥) → (e ≡ JournalFailed → ⊥) → p' ≡ p
      receive link bytes TooManyLinks r memory device = r.1
      receive link bytes (Sync e) r memory device = r.2
      receive link bytes OutOfMemory r memory device = absurd (memory refl)
      receive link bytes JournalFailed r memory device = absurd (device refl)
      receive link bytes _ r memory device = absurd r

      generate : (link : ℕ) (e : PeerError) → RefusesGenerate p link e p' → (e ≡ JournalFailed → ⊥) → p' ≡ p
      generate link TooManyLinks r device = r.1
      generate link (Sync e) r device = r.3
      generate link OutOfMemory r device = r.1
      generate link JournalFailed r device = absurd (device refl)
      generate link _ r device = absurd r

      by : (call : Call) (e : PeerError) → Runs p call (Refused e) p' → (e ≡ OutOfMemory → ⊥) → (e ≡ JournalFailed → ⊥) → p' ≡ p
      by (Edit ss t m) e r memory device = edit (asking p.actor ss t m) e r memory device
      by (Merge other) e r memory device = merge other e r memory device
      by Read e r memory device = r.1
      by (ReadAt H) e r memory device = r.1
      by (Receive link bytes) e r memory device = receive link bytes e r memory device
      by (Generate link) e r memory device = generate link e r device
      by (Forget link) e r memory device = absurd r
      by ReadHeads e r memory device = absurd r
