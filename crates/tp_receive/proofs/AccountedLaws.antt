-- Where each change is while a run goes on, and what was reported of it, where two changes with one hash are one.
use Rattle.tp_receive.proofs.Common.{◌≡◌, ◌⊎◌, inl, inr, List, [], ◌∷◌, ◌++◌, true, Some, None, refl, sym, ap, ◌∙◌, subst, In-left, In, AllIn, Hash, ChangeParts, hash_of, GraphError, MissingDeps, has, HashesApart, cause, Sound, In-has, has-In, is_refusal, Intake, Turn, refuse, In-last}
use Rattle.tp_receive.proofs.RefusalLaws.{refused-known, refused-push}
use Rattle.tp_receive.proofs.CausesLaws.{same-stays}
use Rattle.tp_receive.proofs.TurnLaws.{Turn-cases, IsHere, changes_of, with_rest}
use Rattle.tp_receive.proofs.RunLaws.{In-pushed}

-- The change is refused for good, whatever enters later, and was reported.
pub record IsSettled (C : List ChangeParts) (entered : List Hash) (refused : List (Hash × GraphError)) (c : ChangeParts) : Type 0 where
  pub final : is_refusal (cause C c) ≡ true
  pub reported : In (hash_of c) entered ⊎ ((e : GraphError) × In (hash_of c, e) refused)

-- The change is done, or was dropped for want of space.
abbrev pub IsOut : List ChangeParts → List Hash → List (Hash × GraphError) → ChangeParts → Type 0
IsOut C entered refused c = IsSettled C entered refused c ⊎ In (hash_of c, MissingDeps) refused

-- The change waits, is done, or was dropped for want of space.
abbrev pub HadTurn : {S : Type 0} → Intake S → ChangeParts → Type 0
HadTurn t c = In c t.waiting ⊎ IsOut t.applied t.entered t.refused c

-- ---- the change whose turn it was

pub done_entered : (C : List ChangeParts) (t : List Hash) (r : List (Hash × GraphError)) (c : ChangeParts) → IsSettled (C ++ c ∷ []) (t ++ hash_of c ∷ []) r c
done_entered C t r c = record { final = refused-known (C ++ c ∷ []) c (In-has (C ++ c ∷ []) c (hash_of c) (In-last c C) refl); reported = inl (In-last (hash_of c) t) }

pub done_refused : (C : List ChangeParts) (t : List Hash) (r : List (Hash × GraphError)) (c : ChangeParts) (e : GraphError) → cause C c ≡ Some e → is_refusal (Some e) ≡ true → IsSettled C t (r ++ (hash_of c, e) ∷ []) c
done_refused C t r c e caused final = record { final = ap is_refusal caused ∙ final; reported = inr (e, In-last (hash_of c, e) r) }

-- ---- what becomes of the others

-- What is out stays so where one more enters, or is reported.
out_later : (C : List ChangeParts) (t : List Hash) (r : List (Hash × GraphError)) (d x : ChangeParts) → cause C x ≡ None → IsOut C t r d → IsOut (C ++ x ∷ []) (t ++ hash_of x ∷ []) r d
out_later C t r d x none (inl h) = inl (record {
  final = refused-push C x d none h.final;
  reported = elim h.reported [ inl i ↦ inl (In-left (hash_of d) t (hash_of x ∷ []) i) | inr w ↦ inr w ];
})
out_later C t r d x none (inr i) = inr i

out_reported : (C : List ChangeParts) (t : List Hash) (r : List (Hash × GraphError)) (d x : ChangeParts) (e : GraphError) → IsOut C t r d → IsOut C t (r ++ (hash_of x, e) ∷ []) d
out_reported C t r d x e (inl h) = inl (record {
  final = h.final;
  reported = elim h.reported [ inl i ↦ inl i | inr w ↦ inr (w.0, In-left (hash_of d, w.0) r ((hash_of x, e) ∷ []) w.1) ];
})
out_reported C t r d x e (inr i) = inr (In-left (hash_of d, MissingDeps) r ((hash_of x, e) ∷ []) i)

-- One that had its turn: so it did after each later turn.
pub HadTurn-turn : {S : Type 0} (keeps : S → ChangeParts → S → Type 0) (d : ChangeParts) (s t : Intake S) → Turn keeps s t → HadTurn s d → HadTurn t d
HadTurn-turn {S} keeps d s t u h =
    Turn-cases keeps (λ (t : Intake S). HadTurn t d) s t
    (record {
      entered = λ c V Q k out none keep. elim h [
        | inl i ↦ elim (out.waits d i) [ inl e ↦ rw e (inr (inl (done_entered s.applied s.entered s.refused c))) | inr j ↦ inl j ]
        | inr o ↦ inr (out_later s.applied s.entered s.refused d c none o)
      ];
      refused = λ c V Q e out caused final. elim h [
        | inl i ↦ elim (out.waits d i) [ inl same ↦ rw same (inr (inl (done_refused s.applied s.entered s.refused c e caused final))) | inr j ↦ inl j ]
        | inr o ↦ inr (out_reported s.applied s.entered s.refused d c e o)
      ];
      again = λ c Q slot out is lacks there. h;
      held = λ c Q slot out is lacks new space. elim h [ inl i ↦ inl (In-left d s.waiting (c ∷ []) i) | inr o ↦ inr o ];
      dropped = λ c Q slot out is lacks new full. elim h [ inl i ↦ inl i | inr o ↦ inr (out_reported s.applied s.entered s.refused d c MissingDeps o) ];
    })
    u

-- Where its hash waits already, the change does.
pub waits_already : (F W : List ChangeParts) (c : ChangeParts) → HashesApart F → AllIn W F → In c F → has W (hash_of c) ≡ true → In c W
waits_already F W c apart part i there =
    let w = has-In W (hash_of c) there in
    subst (λ (x : ChangeParts). In x W) (apart w.0 c (part w.0 w.1) i w.2) w.1

-- One that is still to come or had its turn.
pub IsSomewhere-turn : {S : Type 0} (keeps : S → ChangeParts → S → Type 0) (F : List ChangeParts) (d : ChangeParts) (s t : Intake S) → HashesApart F → ((c : ChangeParts) → IsHere s.waiting s.coming c → In c F)
    → Turn keeps s t → In d (changes_of s.coming) → In d (changes_of t.coming) ⊎ HadTurn t d
IsSomewhere-turn {S} keeps F d s t apart here u i =
    Turn-cases keeps (λ (t : Intake S). In d (changes_of t.coming) ⊎ HadTurn t d) s t
    (record {
      entered = λ c V Q k out none keep. elim (out.cover d (inr i)) [
        | inl e ↦ rw e (inr (inr (inl (done_entered s.applied s.entered s.refused c))))
        | inr j ↦ elim j [ inl w ↦ inr (inl w) | inr l ↦ inl l ]
      ];
      refused = λ c V Q e out caused final. elim (out.cover d (inr i)) [
        | inl same ↦ rw same (inr (inr (inl (done_refused s.applied s.entered s.refused c e caused final))))
        | inr j ↦ elim j [ inl w ↦ inr (inl w) | inr l ↦ inl l ]
      ];
      again = λ c Q slot out is lacks there. elim (out.cover d (inr i)) [
        | inl same ↦ rw same (inr (inl (waits_already F s.waiting c apart (λ x j. here x (inl j)) (here c out.here) there)))
        | inr j ↦ elim j [ inl w ↦ inr (inl w) | inr l ↦ inl l ]
      ];
      held = λ c Q slot out is lacks new space. elim (out.cover d (inr i)) [
        | inl same ↦ rw same (inr (inl (In-last c s.waiting)))
        | inr j ↦ elim j [ inl w ↦ inr (inl (In-left d s.waiting (c ∷ []) w)) | inr l ↦ inl l ]
      ];
      dropped = λ c Q slot out is lacks new full. elim (out.cover d (inr i)) [
        | inl same ↦ rw same (inr (inr (inr (In-last (hash_of c, MissingDeps) s.refused))))
        | inr j ↦ elim j [ inl w ↦ inr (inl w) | inr l ↦ inl l ]
      ];
    })
    u

-- ---- what is reported

-- What is reported as refused is each time a change of F that was dropped, or has the cause still.
abbrev pub AreCauses : {S : Type 0} → List ChangeParts → Intake S → Type 0
AreCauses F t = (h : Hash) (e : GraphError) → In (h, e) t.refused
    → (d : ChangeParts) × In d F × (hash_of d ≡ h) × ((e ≡ MissingDeps) ⊎ ((is_refusal (Some e) ≡ true) × (cause t.applied d ≡ Some e)))

one_reported : {S : Type 0} (F : List ChangeParts) (s : Intake S) (c : ChangeParts) (e : GraphError) → In c F
    → (e ≡ MissingDeps) ⊎ ((is_refusal (Some e) ≡ true) × (cause s.applied c ≡ Some e)) → AreCauses F s → AreCauses F (refuse s c e)
one_reported F s c e came is old h f i =
    elim (In-pushed s.refused (hash_of c, e) (h, f) i) [
      | inl same ↦
          let one : f ≡ e = ap (λ (p : Hash × GraphError). p.1) same in
          let hash : hash_of c ≡ h = sym (ap (λ (p : Hash × GraphError). p.0) same) in
          (c, came, hash, subst (λ (x : GraphError). (x ≡ MissingDeps) ⊎ ((is_refusal (Some x) ≡ true) × (cause s.applied c ≡ Some x))) (sym one) is)
      | inr j ↦ old h f j
    ]

pub AreCauses-turn : {S : Type 0} (keeps : S → ChangeParts → S → Type 0) (F : List ChangeParts) (s t : Intake S) → HashesApart F → Sound s.applied → ((c : ChangeParts) → IsHere s.waiting s.coming c → In c F)
    → Turn keeps s t → AreCauses F s → AreCauses F t
AreCauses-turn {S} keeps F s t apart sound here u old =
    Turn-cases keeps (AreCauses F) s t
    (record {
      entered = λ c V Q k out none keep h e i.
          let w = old h e i in (
            w.0,
            w.1,
            w.2,
            elim w.3 [
              | inl m ↦ inl m
              | inr p ↦ inr (p.0, same-stays s.applied (c ∷ []) F w.0 e sound (none, tt) (λ d j. elim j [ inl one ↦ rw one (here c out.here) | inr n ↦ absurd n ]) apart w.1 p.0 p.1)
            ],
          );
      refused = λ c V Q e out caused final. one_reported F (with_rest s V Q) c e (here c out.here) (inr (final, caused)) old;
      again = λ c Q slot out is lacks there. old;
      held = λ c Q slot out is lacks new space. old;
      dropped = λ c Q slot out is lacks new full. one_reported F (with_rest s s.waiting Q) c MissingDeps (here c out.here) (inl refl) old;
    })
    u
