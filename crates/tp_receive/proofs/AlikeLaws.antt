-- Two whole runs from one beginning end alike, whatever keeps.
use Rattle.tp_receive.proofs.Common.{◌≡◌, ℕ, zero, suc, ◌+◌, inl, inr, List, [], ◌∷◌, ◌++◌, length, Bool, true, false, cond, Option, Some, None, refl, sym, ap, ◌∙◌, subst, nat_lt, In-right, never, In, Hash, ChangeParts, hash_of, GraphError, MissingDeps, has, cause, most_waiting, AllWait, lacks_deps, is_refusal, slots, Intake, DecidesChange, NextChange, SomeTurns, Turn, hold, intake, refuse, IsIntakeDone, NextWaits, Turns, Alike}

-- ---- one next

-- one first that lacks nothing
first_ready : (C A B D E : List ChangeParts) (c d : ChangeParts) → AllWait C A → AllWait C D → lacks_deps (cause C c) ≡ false → lacks_deps (cause C d) ≡ false → A ++ c ∷ B ≡ D ++ d ∷ E → (c ≡ d) × (A ++ B ≡ D ++ E)
first_ready C [] B [] E c d a b x y e = (cc, cc)
first_ready C [] B (g ∷ D) E c d a b x y e = let same : g ≡ c = cc in never (subst (λ (z : ChangeParts). lacks_deps (cause C z) ≡ true) same (b g (inl refl))) x
first_ready C (f ∷ A) B [] E c d a b x y e = let same : f ≡ d = cc in never (subst (λ (z : ChangeParts). lacks_deps (cause C z) ≡ true) same (a f (inl refl))) y
first_ready C (f ∷ A) B (g ∷ D) E c d a b x y e =
    let same : f ≡ g = cc in
    let rest : A ++ c ∷ B ≡ D ++ d ∷ E = cc in
    let w = first_ready C A B D E c d (λ z i. a z (inr i)) (λ z i. b z (inr i)) x y rest in
    let tail : A ++ B ≡ D ++ E = w.1 in
    (w.0, ap (λ (z : ChangeParts). z ∷ A ++ B) same ∙ ap (λ (l : List ChangeParts). g ∷ l) tail)

pair_of : ChangeParts → Bool → ChangeParts × Bool
pair_of c b = (c, b)

one_comes : (c d : ChangeParts) (p q : Bool) (P Q : List (ChangeParts × Bool)) → (c, p) ∷ P ≡ (d, q) ∷ Q → (c ≡ d) × (P ≡ Q)
unfolding pair_of
one_comes c d p q P Q e = let first : pair_of c p ≡ pair_of d q = cc in (ap (λ (x : ChangeParts × Bool). x.0) first, cc)

-- a change that lacks nothing is none of those that all wait
none_ready : {S : Type 0} (s : Intake S) (C W : List ChangeParts) (c : ChangeParts) (rest : Intake S) → NextWaits s c rest → C ≡ s.applied → W ≡ s.waiting → AllWait C W → ⊥
none_ready s C W c rest n a w settled =
    never (subst (λ (D : List ChangeParts). lacks_deps (cause D c) ≡ true) a (settled c (subst (In c) (sym (w ∙ n.waits)) (In-right c n.before (c ∷ n.beyond) (inl refl))))) n.ready

next_alike : {S R : Type 0} (s rest : Intake S) (t last : Intake R) (c d : ChangeParts) → Alike s t → NextChange s c rest → NextChange t d last → (c ≡ d) × Alike rest last
next_alike s rest t last c d h (inl n) (inl m) =
    let w = first_ready s.applied n.before n.beyond m.before m.beyond c d n.earliest (subst (λ (C : List ChangeParts). AllWait C m.before) (sym h.applied) m.earliest) n.ready
    (subst (λ (C : List ChangeParts). lacks_deps (cause C d) ≡ false) (sym h.applied) m.ready) (sym n.waits ∙ h.waiting ∙ m.waits) in
    (w.0, rw (n.without, m.without) (record { applied = h.applied; waiting = w.1; coming = h.coming; entered = h.entered; refused = h.refused }))
next_alike s rest t last c d h (inl n) (inr m) = absurd (none_ready s t.applied t.waiting c rest n (sym h.applied) (sym h.waiting) m.settled)
next_alike s rest t last c d h (inr n) (inl m) = absurd (none_ready t s.applied s.waiting d last m h.applied h.waiting n.settled)
next_alike s rest t last c d h (inr n) (inr m) =
    let w = one_comes c d n.slot m.slot n.beyond m.beyond (sym n.comes ∙ h.coming ∙ m.comes) in
    (w.0, rw (n.without, m.without) (record { applied = h.applied; waiting = h.waiting; coming = w.1; entered = h.entered; refused = h.refused }))

-- ---- one outcome of a turn

held_alike : {S R : Type 0} (k : S) (j : R) (C W : List ChangeParts) (P : List (ChangeParts × Bool)) (a : List Hash) (r : List (Hash × GraphError)) (c : ChangeParts) → Alike (hold (intake k C W P a r) c) (hold (intake j C W P a r) c)
held_alike k j C W P a r c = by (has W (hash_of c)) (nat_lt (length W + slots P) most_waiting) where
  by : (b l : Bool) → Alike (cond b (intake k C W P a r) (cond l (intake k C (W ++ c ∷ []) P a r) (refuse (intake k C W P a r) c MissingDeps))) (cond b (intake j C W P a r) (cond l (intake j C (W ++ c ∷ []) P a r) (refuse (intake j C W P a r) c MissingDeps)))
  by true l = record { applied = refl; waiting = refl; coming = refl; entered = refl; refused = refl }
  by false true = record { applied = refl; waiting = refl; coming = refl; entered = refl; refused = refl }
  by false false = record { applied = refl; waiting = refl; coming = refl; entered = refl; refused = refl }

hold_alike : {S R : Type 0} (s : Intake S) (t : Intake R) (c : ChangeParts) → Alike s t → Alike (hold s c) (hold t c)
hold_alike {S} {R} s t c h =
    let same : t ≡ intake t.keeper s.applied s.waiting s.coming s.entered s.refused = rw (h.applied, h.waiting, h.coming, h.entered, h.refused) refl in
    subst (λ (u : Intake R). Alike (hold s c) (hold u c)) (sym same) (held_alike s.keeper t.keeper s.applied s.waiting s.coming s.entered s.refused c)

none_some : {A : Type 0} {o : Option GraphError} {e : GraphError} → o ≡ None → o ≡ Some e → A
none_some n s = let no : None ≡ Some _ = sym n ∙ s in cc

lacks_refused : {A : Type 0} {o : Option GraphError} {e : GraphError} → o ≡ Some MissingDeps → o ≡ Some e → is_refusal (Some e) ≡ true → A
lacks_refused m s final = let no : false ≡ true = ap is_refusal (sym m ∙ s) ∙ final in cc

meets_alike : {S R : Type 0} (keeps : S → ChangeParts → S → Type 0) (stores : R → ChangeParts → R → Type 0) (s x : Intake S) (t y : Intake R) (c : ChangeParts) → Alike s t → DecidesChange keeps s c x → DecidesChange stores t c y → Alike x y
meets_alike keeps stores s x t y c h (inl m) (inl n) = rw (m.3, n.3) (record {
  applied = ap (λ (l : List ChangeParts). l ++ c ∷ []) h.applied;
  waiting = h.waiting;
  coming = h.coming;
  entered = ap (λ (l : List Hash). l ++ hash_of c ∷ []) h.entered;
  refused = h.refused;
})
meets_alike keeps stores s x t y c h (inl m) (inr (inl n)) = none_some m.0 (ap (λ (C : List ChangeParts). cause C c) h.applied ∙ n.0)
meets_alike keeps stores s x t y c h (inl m) (inr (inr n)) = none_some m.0 (ap (λ (C : List ChangeParts). cause C c) h.applied ∙ n.1)
meets_alike keeps stores s x t y c h (inr (inl m)) (inl n) = none_some (ap (λ (C : List ChangeParts). cause C c) h.applied ∙ n.0) m.0
meets_alike keeps stores s x t y c h (inr (inl m)) (inr (inl n)) = rw (m.1, n.1) (hold_alike s t c h)
meets_alike keeps stores s x t y c h (inr (inl m)) (inr (inr n)) = lacks_refused m.0 (ap (λ (C : List ChangeParts). cause C c) h.applied ∙ n.1) n.2
meets_alike keeps stores s x t y c h (inr (inr m)) (inl n) = none_some (ap (λ (C : List ChangeParts). cause C c) h.applied ∙ n.0) m.1
meets_alike keeps stores s x t y c h (inr (inr m)) (inr (inl n)) = lacks_refused (ap (λ (C : List ChangeParts). cause C c) h.applied ∙ n.0) m.1 m.2
meets_alike keeps stores s x t y c h (inr (inr m)) (inr (inr n)) =
    let same : Some m.0 ≡ Some n.0 = sym m.1 ∙ ap (λ (C : List ChangeParts). cause C c) h.applied ∙ n.1 in
    let one : m.0 ≡ n.0 = cc in
    rw (m.3, n.3) (record {
      applied = h.applied;
      waiting = h.waiting;
      coming = h.coming;
      entered = h.entered;
      refused = ap (λ (l : List (Hash × GraphError)). l ++ (hash_of c, m.0) ∷ []) h.refused ∙ ap (λ (e : GraphError). t.refused ++ (hash_of c, e) ∷ []) one;
    })

turn_alike : {S R : Type 0} (keeps : S → ChangeParts → S → Type 0) (stores : R → ChangeParts → R → Type 0) (s x : Intake S) (t y : Intake R) → Alike s t → Turn keeps s x → Turn stores t y → Alike x y
turn_alike {S} {R} keeps stores s x t y h u v =
    let w = next_alike s u.rest t v.rest u.change v.change h u.next v.next in
    meets_alike keeps stores u.rest x v.rest y u.change w.1 u.meets (subst (λ (d : ChangeParts). DecidesChange stores v.rest d y) (sym w.0) v.meets)

-- ---- one end

-- Where one has ended, the other has no turn.
no_turn : {S R : Type 0} (stores : R → ChangeParts → R → Type 0) (s : Intake S) (t y : Intake R) → Alike s t → IsIntakeDone s → Turn stores t y → ⊥
no_turn stores s t y h e u = elim u.next [
  | inl n ↦ none_ready t s.applied s.waiting u.change u.rest n h.applied h.waiting e.settled
  | inr n ↦ let no : [] ≡ (u.change, n.slot) ∷ n.beyond = sym e.came ∙ h.coming ∙ n.comes in cc
]

Alike-sym : {S R : Type 0} (s : Intake S) (t : Intake R) → Alike s t → Alike t s
Alike-sym s t h = record { applied = sym h.applied; waiting = sym h.waiting; coming = sym h.coming; entered = sym h.entered; refused = sym h.refused }

turns_alike : {S R : Type 0} (keeps : S → ChangeParts → S → Type 0) (stores : R → ChangeParts → R → Type 0) (n m : ℕ) (s x : Intake S) (t y : Intake R)
    → Alike s t → Turns keeps n s x → Turns stores m t y → IsIntakeDone x → IsIntakeDone y → Alike x y
turns_alike {S} {R} keeps stores zero zero s x t y h a b e f = subst (λ (u : Intake S). Alike u y) a (subst (λ (u : Intake R). Alike s u) b h)
turns_alike {S} {R} keeps stores zero (suc m) s x t y h a b e f = absurd (no_turn stores s t b.0 h (subst IsIntakeDone (sym a) e) b.1)
turns_alike {S} {R} keeps stores (suc n) zero s x t y h a b e f = absurd (no_turn keeps t s a.0 (Alike-sym s t h) (subst IsIntakeDone (sym b) f) a.1)
turns_alike {S} {R} keeps stores (suc n) (suc m) s x t y h a b e f = turns_alike keeps stores n m a.0 x b.0 y (turn_alike keeps stores s a.0 t b.0 h a.1 b.1) a.2 b.2 e f

-- Two whole runs from one beginning end alike.
pub one_outcome : {S R : Type 0} (keeps : S → ChangeParts → S → Type 0) (stores : R → ChangeParts → R → Type 0) (s x : Intake S) (t y : Intake R) → Alike s t → SomeTurns keeps s x → SomeTurns stores t y → IsIntakeDone x → IsIntakeDone y → Alike x y
one_outcome keeps stores s x t y h a b e f = turns_alike keeps stores a.count b.count s x t y h a.turns b.turns e f
