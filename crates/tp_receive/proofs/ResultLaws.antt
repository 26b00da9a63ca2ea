-- What a whole run came to.
use Rattle.tp_receive.proofs.Common.{◌≡◌, ℕ, ◌+◌, ◌≤◌, ◌⊎◌, inl, inr, List, ◌++◌, length, Bool, true, false, Some, refl, sym, ap, ◌∙◌, subst, arith, nat_lt, In-append, nat_tests, In, Hash, ChangeParts, hash_of, GraphError, MissingDeps, cause, most_waiting, Sound, ReceiveError, KeepError, HashesApart, is_refusal, delivery, with_slots, slots, Intake, Turn, Receiver, SomeTurns, Stops, begin, Between, is_full, IsIntakeDone, Results}
use Rattle.tp_receive.proofs.RefusalLaws.{IsSome-refusal, IsSome-lacks}
use Rattle.tp_receive.proofs.CausesLaws.{Barred-cause, lacks_cause}
use Rattle.tp_receive.proofs.GrowsLaws.{Sound-grows, Between-grown}
use Rattle.tp_receive.proofs.TurnLaws.{SomeTurns-keeps, changes_of}
use Rattle.tp_receive.proofs.RunLaws.{Grew, Grew-turn, Grew-first, Grew-run, few_at_end, HasRoom, HasRoom-turn, here_first, placing_of}
use Rattle.tp_receive.proofs.AccountedLaws.{HadTurn, HadTurn-turn, IsSomewhere-turn, AreCauses, AreCauses-turn}
use Rattle.tp_receive.proofs.DroppedLaws.{Delivering, Delivering-first, Delivering-turn}

-- What holds after each turn, where two changes with one hash are one.
record Holds {S : Type 0} (keeps : S → ChangeParts → S → Type 0) (k : S) (C W K : List ChangeParts) (t : Intake S) : Type 0 where
  grew : Grew keeps (begin k C W K) (W ++ K) t
  room : HasRoom t
  somewhere : (d : ChangeParts) → In d (W ++ K) → In d (changes_of t.coming) ⊎ HadTurn t d
  causes : AreCauses (W ++ K) t
  delivering : Delivering (W ++ K) C K t.coming t

Holds-turn : {S : Type 0} (keeps : S → ChangeParts → S → Type 0) (k : S) (C W K : List ChangeParts) → Sound C → HashesApart (W ++ K)
    → (s t : Intake S) → Turn keeps s t → Holds keeps k C W K s → Holds keeps k C W K t
Holds-turn keeps k C W K sound apart s t u h = record {
  grew = Grew-turn keeps (begin k C W K) (W ++ K) s t u h.grew;
  room = HasRoom-turn keeps s t u h.room;
  somewhere = λ d i. elim (h.somewhere d i) [
    | inl j ↦ IsSomewhere-turn keeps (W ++ K) d s t apart h.grew.here u j
    | inr j ↦ inr (HadTurn-turn keeps d s t u j)
  ];
  causes = AreCauses-turn keeps (W ++ K) s t apart (Sound-grows C (W ++ K) s.applied h.grew.new sound h.grew.grows) h.grew.here u h.causes;
  delivering = Delivering-turn keeps (W ++ K) C K s t apart h.grew.here h.room u h.delivering;
}

not_full : (n : ℕ) → nat_lt most_waiting n ≡ false → n ≤ most_waiting
not_full n e = grind (arith, nat_tests)

holds : {S : Type 0} (keeps : S → ChangeParts → S → Type 0) (k : S) (C W K : List ChangeParts) (t : Intake S) → Sound C → HashesApart (W ++ K) → is_full C W K ≡ false
    → SomeTurns keeps (begin k C W K) t → Holds keeps k C W K t
holds keeps k C W K t sound apart space r =
    SomeTurns-keeps keeps (Holds keeps k C W K) (Holds-turn keeps k C W K sound apart) (begin k C W K) t r
    (record {
      grew = Grew-first keeps (begin k C W K) (W ++ K) refl (here_first C W K);
      room = not_full (length W + slots (with_slots W (delivery C K))) space;
      somewhere = λ d i. elim (In-append d W K i) [ inl j ↦ inr (inl j) | inr j ↦ inl (subst (In d) (sym (placing_of C W K)) j) ];
      causes = λ h e i. absurd i;
      delivering = Delivering-first C W K (begin k C W K) refl refl refl;
    })

-- What a run came to that ended.
pub results : {S : Type 0} (keeps : S → ChangeParts → S → Type 0) (k : S) (C W K : List ChangeParts) (t : Intake S) → Sound C → HashesApart (W ++ K) → is_full C W K ≡ false
    → SomeTurns keeps (begin k C W K) t → IsIntakeDone t → Results C W K t
results {S} keeps k C W K t sound apart space r ends =
    let h = holds keeps k C W K t sound apart space r in
    let dropped : (c : ChangeParts) → In c (W ++ K) → In (hash_of c, MissingDeps) t.refused → cause t.applied c ≡ Some MissingDeps =
    λ c i j. Barred-cause (W ++ K) t.applied c (h.delivering.barred c i j) in
    let had : (c : ChangeParts) → In c (W ++ K) → HadTurn t c = λ c i. elim (h.somewhere c i) [
      | inl j ↦ absurd (subst (λ (P : List (ChangeParts × Bool)). In c (changes_of P)) ends.came j)
      | inr j ↦ j
    ] in
    record {
      receives = record {
        sound = Sound-grows C (W ++ K) t.applied h.grew.new sound h.grew.grows;
        new = h.grew.new;
        entered = h.grew.grows;
        closed = λ c i. elim (had c i) [
          | inl j ↦ IsSome-lacks (cause t.applied c) (ends.settled c j)
          | inr rest ↦ elim rest [ inl d ↦ IsSome-refusal (cause t.applied c) d.final | inr x ↦ rw (dropped c i x) refl ]
        ];
      };
      causes = λ g e i.
          let w = h.causes g e i in (
            w.0,
            w.1,
            w.2,
            elim w.3 [
              | inl m ↦ subst (λ (x : GraphError). cause t.applied w.0 ≡ Some x) (sym m)
                  (dropped w.0 w.1 (subst (λ (p : Hash × GraphError). In p t.refused) (pair g (hash_of w.0) e MissingDeps (sym w.2) m) i))
              | inr p ↦ p.1
            ],
          );
      placed = record {
        lacking = λ c i m. elim (had c i) [
          | inl j ↦ inl j
          | inr rest ↦ elim rest [ inl d ↦ absurd (no_refusal c m d.final) | inr x ↦ inr x ]
        ];
        waiting = λ c j. lacks_cause (cause t.applied c) (ends.settled c j);
        reported = λ c i. elim (had c i) [
          | inl j ↦ inr (inl j)
          | inr rest ↦ elim rest [ inl d ↦ elim d.reported [ inl n ↦ inl n | inr w ↦ inr (inr w) ] | inr x ↦ inr (inr (MissingDeps, x)) ]
        ];
      };
      deliverable = h.delivering.apart;
    } where
      no_refusal : (c : ChangeParts) → cause t.applied c ≡ Some MissingDeps → is_refusal (cause t.applied c) ≡ true → ⊥
      no_refusal c m f = let no : false ≡ true = sym (ap is_refusal m) ∙ f in cc

      pair : (g h : Hash) (e f : GraphError) → g ≡ h → e ≡ f → (let p : Hash × GraphError = (g, e) in p) ≡ (let q : Hash × GraphError = (h, f) in q)
      pair g h e f a b = rw (a, b) refl

pub few_wait : {S : Type 0} (keeps : S → ChangeParts → S → Type 0) (k : S) (C W K : List ChangeParts) (t : Intake S) → is_full C W K ≡ false → SomeTurns keeps (begin k C W K) t → length t.waiting ≤ most_waiting
few_wait keeps k C W K t space r = few_at_end keeps (begin k C W K) t r (not_full (length W + slots (with_slots W (delivery C K))) space)

-- Where a run stopped, the list is between.
pub between : {S : Type 0} (keeps : S → ChangeParts → S → Type 0) (refuses : S → ChangeParts → KeepError → S → Type 0) (k : S) (C W K : List ChangeParts) (why : ReceiveError) (t : Receiver S)
    → Sound C → Stops keeps refuses (begin k C W K) why t → Between C (W ++ K) t.applied
between keeps refuses k C W K why t sound x =
    let g = Grew-run keeps k C W K x.at x.run in
    rw x.applied (Between-grown C (W ++ K) x.at.applied g.new sound g.grows)
