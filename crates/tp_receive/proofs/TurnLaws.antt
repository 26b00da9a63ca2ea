-- Turns: what each takes out and leaves, and how runs add up.
use Rattle.tp_receive.proofs.Common.{◌≡◌, ℕ, zero, suc, ◌+◌, ◌<◌, ◌≤◌, ◌⊎◌, inl, inr, List, [], ◌∷◌, ◌++◌, length, Bool, true, false, cond, Some, None, refl, sym, ap, ◌∙◌, subst, arith, length-append, nat_lt, In-left, In-right, In-append, truth, nat_tests, In, ChangeParts, hash_of, GraphError, MissingDeps, has, cause, most_waiting, ReceiveError, KeepError, lacks_deps, is_refusal, slots, Intake, refuse, hold, DecidesChange, NextChange, Receiver, Turn, SomeTurns, Stops, enter, Turns}

-- ---- runs add up

pub SomeTurns-none : {S : Type 0} (keeps : S → ChangeParts → S → Type 0) (s : Intake S) → SomeTurns keeps s s
SomeTurns-none keeps s = record { count = 0; turns = refl }

turns_then : {S : Type 0} (keeps : S → ChangeParts → S → Type 0) (n : ℕ) (s m t : Intake S) → Turns keeps n s m → SomeTurns keeps m t → SomeTurns keeps s t
turns_then {S} keeps zero s m t a b = subst (λ (x : Intake S). SomeTurns keeps x t) (sym a) b
turns_then {S} keeps (suc n) s m t a b = let r = turns_then keeps n a.0 m t a.2 b in record { count = suc r.count; turns = (a.0, a.1, r.turns) }

pub SomeTurns-then : {S : Type 0} (keeps : S → ChangeParts → S → Type 0) (s m t : Intake S) → SomeTurns keeps s m → SomeTurns keeps m t → SomeTurns keeps s t
SomeTurns-then keeps s m t a b = turns_then keeps a.count s m t a.turns b

pub SomeTurns-turn : {S : Type 0} (keeps : S → ChangeParts → S → Type 0) (s m t : Intake S) → Turn keeps s m → SomeTurns keeps m t → SomeTurns keeps s t
SomeTurns-turn keeps s m t a b = record { count = suc b.count; turns = (m, a, b.turns) }

pub SomeTurns-one : {S : Type 0} (keeps : S → ChangeParts → S → Type 0) (s t : Intake S) → Turn keeps s t → SomeTurns keeps s t
SomeTurns-one keeps s t a = record { count = 1; turns = (t, a, refl) }

pub Stops-then : {S : Type 0} (keeps : S → ChangeParts → S → Type 0) (refuses : S → ChangeParts → KeepError → S → Type 0) (s m : Intake S) (e : ReceiveError) (t : Receiver S)
    → SomeTurns keeps s m → Stops keeps refuses m e t → Stops keeps refuses s e t
Stops-then keeps refuses s m e t a b = record { at = b.at; run = SomeTurns-then keeps s m b.at a b.run; applied = b.applied; waiting = b.waiting; by = b.by }

turns_keep : {S : Type 0} (keeps : S → ChangeParts → S → Type 0) (P : Intake S → Type 0) → ((s t : Intake S) → Turn keeps s t → P s → P t)
    → (n : ℕ) (s t : Intake S) → Turns keeps n s t → P s → P t
turns_keep keeps P step zero s t a p = subst P a p
turns_keep keeps P step (suc n) s t a p = turns_keep keeps P step n a.0 t a.2 (step s a.0 a.1 p)

-- What each turn keeps, a run keeps.
pub SomeTurns-keeps : {S : Type 0} (keeps : S → ChangeParts → S → Type 0) (P : Intake S → Type 0) → ((s t : Intake S) → Turn keeps s t → P s → P t)
    → (s t : Intake S) → SomeTurns keeps s t → P s → P t
SomeTurns-keeps keeps P step s t r p = turns_keep keeps P step r.count s t r.turns p

-- ---- what a turn takes out

-- the changes that are still to come
abbrev pub changes_of : List (ChangeParts × Bool) → List ChangeParts
changes_of [] = []
changes_of (p ∷ P) = p.0 ∷ changes_of P

-- The change waits, or is still to come.
abbrev pub IsHere : List ChangeParts → List (ChangeParts × Bool) → ChangeParts → Type 0
IsHere W P d = In d W ⊎ In d (changes_of P)

-- It is the turn of c, where W waits and P is to come; without it V waits and Q is to come.
pub record TakesOut (W : List ChangeParts) (P : List (ChangeParts × Bool)) (c : ChangeParts) (V : List ChangeParts) (Q : List (ChangeParts × Bool)) : Type 0 where
  pub here : IsHere W P c
  pub less : (d : ChangeParts) → IsHere V Q d → IsHere W P d
  pub cover : (d : ChangeParts) → IsHere W P d → (d ≡ c) ⊎ IsHere V Q d
  pub waits : (d : ChangeParts) → In d W → (d ≡ c) ⊎ In d V
  pub few : length V + slots Q ≤ length W + slots P
  pub fewer : length V + length Q < length W + length P
  pub comes : (Q ≡ P) ⊎ ((slot : Bool) × (P ≡ (c, slot) ∷ Q))

In-without : (A B : List ChangeParts) (c d : ChangeParts) → In d (A ++ c ∷ B) → (d ≡ c) ⊎ In d (A ++ B)
In-without A B c d i =
    elim (In-append d A (c ∷ B) i) [ inl j ↦ inr (In-left d A B j) | inr j ↦ elim j [ inl e ↦ inl e | inr k ↦ inr (In-right d A B k) ] ]

In-with : (A B : List ChangeParts) (c d : ChangeParts) → In d (A ++ B) → In d (A ++ c ∷ B)
In-with A B c d i = elim (In-append d A B i) [ inl j ↦ In-left d A (c ∷ B) j | inr j ↦ In-right d A (c ∷ B) (inr j) ]

takes_waiting : (A B : List ChangeParts) (P : List (ChangeParts × Bool)) (c : ChangeParts) → TakesOut (A ++ c ∷ B) P c (A ++ B) P
takes_waiting A B P c = record {
  here = inl (In-right c A (c ∷ B) (inl refl));
  less = λ d h. elim h [ inl i ↦ inl (In-with A B c d i) | inr i ↦ inr i ];
  cover = λ d h. elim h [ inl i ↦ elim (In-without A B c d i) [ inl e ↦ inl e | inr j ↦ inr (inl j) ] | inr i ↦ inr (inr i) ];
  waits = In-without A B c;
  few = omega (arith, length-append A B, length-append A (c ∷ B));
  fewer = omega (arith, length-append A B, length-append A (c ∷ B));
  comes = inl refl;
}

takes_coming : (W : List ChangeParts) (Q : List (ChangeParts × Bool)) (c : ChangeParts) (slot : Bool) → TakesOut W ((c, slot) ∷ Q) c W Q
takes_coming W Q c slot = record {
  here = inr (inl refl);
  less = λ d h. elim h [ inl i ↦ inl i | inr i ↦ inr (inr i) ];
  cover = λ d h. elim h [ inl i ↦ inr (inl i) | inr i ↦ elim i [ inl e ↦ inl e | inr j ↦ inr (inr j) ] ];
  waits = λ d i. inr i;
  few = few slot;
  fewer = omega arith;
  comes = inr (slot, refl);
} where
  few : (b : Bool) → length W + slots Q ≤ length W + cond b (slots Q + 1) (slots Q)
  few true = omega arith
  few false = omega arith

-- ---- what a turn leaves

-- what it sees and has reported, but V waits and Q is to come
abbrev pub with_rest : {S : Type 0} → Intake S → List ChangeParts → List (ChangeParts × Bool) → Intake S
with_rest s V Q = record s { waiting = V; coming = Q }

-- A turn left something that holds where the change entered, was refused for good, waited already, waits now, or was
-- dropped.
pub record Cases {S : Type 0} (keeps : S → ChangeParts → S → Type 0) (P : Intake S → Type 0) (s : Intake S) : Type 0 where
  pub entered : (c : ChangeParts) (V : List ChangeParts) (Q : List (ChangeParts × Bool)) (k : S) → TakesOut s.waiting s.coming c V Q
      → cause s.applied c ≡ None → keeps s.keeper c k → P (enter (with_rest s V Q) c k)
  pub refused : (c : ChangeParts) (V : List ChangeParts) (Q : List (ChangeParts × Bool)) (e : GraphError) → TakesOut s.waiting s.coming c V Q
      → cause s.applied c ≡ Some e → is_refusal (Some e) ≡ true → P (refuse (with_rest s V Q) c e)
  pub again : (c : ChangeParts) (Q : List (ChangeParts × Bool)) (slot : Bool) → TakesOut s.waiting s.coming c s.waiting Q → s.coming ≡ (c, slot) ∷ Q
      → cause s.applied c ≡ Some MissingDeps → has s.waiting (hash_of c) ≡ true → P (with_rest s s.waiting Q)
  pub held : (c : ChangeParts) (Q : List (ChangeParts × Bool)) (slot : Bool) → TakesOut s.waiting s.coming c s.waiting Q → s.coming ≡ (c, slot) ∷ Q
      → cause s.applied c ≡ Some MissingDeps → has s.waiting (hash_of c) ≡ false → length s.waiting + slots Q < most_waiting
      → P (with_rest s (s.waiting ++ c ∷ []) Q)
  pub dropped : (c : ChangeParts) (Q : List (ChangeParts × Bool)) (slot : Bool) → TakesOut s.waiting s.coming c s.waiting Q → s.coming ≡ (c, slot) ∷ Q
      → cause s.applied c ≡ Some MissingDeps → has s.waiting (hash_of c) ≡ false → most_waiting ≤ length s.waiting + slots Q
      → P (refuse (with_rest s s.waiting Q) c MissingDeps)

below : (n : ℕ) → nat_lt n most_waiting ≡ true → n < most_waiting
below n e = grind (arith, nat_tests)

above : (n : ℕ) → nat_lt n most_waiting ≡ false → most_waiting ≤ n
above n e = grind (arith, nat_tests)

hold_cases : {S : Type 0} (keeps : S → ChangeParts → S → Type 0) (P : Intake S → Type 0) (s : Intake S) (c : ChangeParts) (Q : List (ChangeParts × Bool)) (slot : Bool)
    → Cases keeps P s → TakesOut s.waiting s.coming c s.waiting Q → s.coming ≡ (c, slot) ∷ Q → cause s.applied c ≡ Some MissingDeps → P (hold (with_rest s s.waiting Q) c)
hold_cases {S} keeps P s c Q slot h out is lacks =
    elim (truth (has s.waiting (hash_of c))) [
      | inl t ↦ subst (λ b. P (cond b (with_rest s s.waiting Q) (cond (nat_lt (length s.waiting + slots Q) most_waiting) (with_rest s (s.waiting ++ c ∷ []) Q) (refuse (with_rest s s.waiting Q) c MissingDeps)))) (sym t) (h.again c Q slot out is lacks t)
      | inr f ↦ subst (λ b. P (cond b (with_rest s s.waiting Q) (cond (nat_lt (length s.waiting + slots Q) most_waiting) (with_rest s (s.waiting ++ c ∷ []) Q) (refuse (with_rest s s.waiting Q) c MissingDeps)))) (sym f)
          (elim (truth (nat_lt (length s.waiting + slots Q) most_waiting)) [
            | inl l ↦ subst (λ b. P (cond b (with_rest s (s.waiting ++ c ∷ []) Q) (refuse (with_rest s s.waiting Q) c MissingDeps))) (sym l) (h.held c Q slot out is lacks f (below (length s.waiting + slots Q) l))
            | inr l ↦ subst (λ b. P (cond b (with_rest s (s.waiting ++ c ∷ []) Q) (refuse (with_rest s s.waiting Q) c MissingDeps))) (sym l) (h.dropped c Q slot out is lacks f (above (length s.waiting + slots Q) l))
          ])
    ]

meets_cases : {S : Type 0} (keeps : S → ChangeParts → S → Type 0) (P : Intake S → Type 0) (s t : Intake S) (c : ChangeParts) (V : List ChangeParts) (Q : List (ChangeParts × Bool))
    → Cases keeps P s → TakesOut s.waiting s.coming c V Q → (cause s.applied c ≡ Some MissingDeps → P (hold (with_rest s V Q) c)) → DecidesChange keeps (with_rest s V Q) c t → P t
meets_cases keeps P s t c V Q h out lacks (inl m) = subst P (sym m.3) (h.entered c V Q m.1 out m.0 m.2)
meets_cases keeps P s t c V Q h out lacks (inr (inl m)) = subst P (sym m.1) (lacks m.0)
meets_cases keeps P s t c V Q h out lacks (inr (inr m)) = subst P (sym m.3) (h.refused c V Q m.0 out m.1 m.2)

next_cases : {S : Type 0} (keeps : S → ChangeParts → S → Type 0) (P : Intake S → Type 0) (s t rest : Intake S) (c : ChangeParts)
    → Cases keeps P s → NextChange s c rest → DecidesChange keeps rest c t → P t
next_cases {S} keeps P s t rest c h (inl n) m =
    let out : TakesOut s.waiting s.coming c (n.before ++ n.beyond) s.coming = subst (λ W. TakesOut W s.coming c (n.before ++ n.beyond) s.coming) (sym n.waits) (takes_waiting n.before n.beyond s.coming c) in
    meets_cases keeps P s t c (n.before ++ n.beyond) s.coming h out
    (λ lacks. let no : false ≡ true = sym n.ready ∙ ap lacks_deps lacks in cc)
    (subst (λ (r : Intake S). DecidesChange keeps r c t) n.without m)
next_cases {S} keeps P s t rest c h (inr n) m =
    let out : TakesOut s.waiting s.coming c s.waiting n.beyond = subst (λ Q. TakesOut s.waiting Q c s.waiting n.beyond) (sym n.comes) (takes_coming s.waiting n.beyond c n.slot) in
    meets_cases keeps P s t c s.waiting n.beyond h out
    (hold_cases keeps P s c n.beyond n.slot h out n.comes)
    (subst (λ (r : Intake S). DecidesChange keeps r c t) n.without m)

-- By the five cases.
pub Turn-cases : {S : Type 0} (keeps : S → ChangeParts → S → Type 0) (P : Intake S → Type 0) (s t : Intake S) → Cases keeps P s → Turn keeps s t → P t
Turn-cases keeps P s t h u = next_cases keeps P s t u.rest u.change h u.next u.meets
