-- What is absent from a document: none of it has to wait.
use Rattle.tp_document.proofs.Common.{◌≡◌, ℕ, ◌+◌, ◌≤◌, inl, inr, List, [], ◌∷◌, ◌++◌, length, true, false, cond, refl, sym, ap, ◌∙◌, subst, arith, append_assoc, nat_lt, truth, nat_tests, Hash, ChangeParts, hash_of, has_all, Sound, Fits-at, has, absent, In-last, or_cases, same_hash, same_hash-same}
use Rattle.tp_graph.specs.GraphState.{most_waiting}
use Rattle.tp_history.proofs.NamedLaws.{has-append, has-left, has_all-In, In-has_all, In-has}
use Rattle.tp_receive.specs.Delivery.{delivery, with_slots, slots, is_full}

pub absent-append : (C A B : List ChangeParts) → absent C (A ++ B) ≡ absent C A ++ absent C B
absent-append C [] B = refl
absent-append C (a ∷ A) B =
    elim (has C (hash_of a)) as (λ b. cond b (absent C (A ++ B)) (a ∷ absent C (A ++ B)) ≡ cond b (absent C A) (a ∷ absent C A) ++ absent C B) [
      | true ↦ absent-append C A B
      | false ↦ ap (λ l. a ∷ l) (absent-append C A B)
    ]

-- ---- what is absent is deliverable

-- D has each hash of A
abbrev Covers : List ChangeParts → List ChangeParts → Type 0
Covers D A = (h : Hash) → has A h ≡ true → has D h ≡ true

Covers-push : (D E A : List ChangeParts) (c : ChangeParts) → Covers D A → Covers E D → has E (hash_of c) ≡ true → Covers E (A ++ c ∷ [])
Covers-push D E A c cover more there h t =
    elim (or_cases (has A h) (has (c ∷ []) h) (sym (has-append A (c ∷ []) h) ∙ t)) [
      | inl old ↦ more h (cover h old)
      | inr own ↦ elim (or_cases (same_hash (hash_of c) h) false own) [
        | inl s ↦ subst (λ g. has E g ≡ true) (same_hash-same (hash_of c) h s) there
        | inr n ↦ cc
      ]
    ]

-- Where D has what C has and the changes A before, none of those after them that C lacks takes a place.
none_placed : (C D A B V : List ChangeParts) → Covers D C → Covers D A → Sound (A ++ B) → slots (with_slots V (delivery D (absent C B))) ≡ 0
none_placed C D A [] V old cover s = refl
none_placed C D A (b ∷ B) V old cover s =
    let rest : Sound ((A ++ b ∷ []) ++ B) = subst Sound (sym (append_assoc A (b ∷ []) B)) s in
    elim (truth (has C (hash_of b))) [
      | inl t ↦ rw t (none_placed C D (A ++ b ∷ []) B V old (Covers-push D D A b cover (λ h e. e) (old (hash_of b) t)) rest)
      | inr f ↦
          let deps : has_all D b.deps ≡ true = In-has_all D b.deps (λ h i. cover h (has_all-In A b.deps (Fits-at A b B s).deps h i)) in
          let more : Covers (D ++ b ∷ []) D = λ h e. has-left D (b ∷ []) h e in
          rw (f, deps) (none_placed C (D ++ b ∷ []) (A ++ b ∷ []) B V (λ h e. more h (old h e))
          (Covers-push D (D ++ b ∷ []) A b cover more (In-has (D ++ b ∷ []) b (hash_of b) (In-last b D) refl)) rest)
    ]

-- What is absent from a list of sound changes never makes too many wait.
pub never_full : (C W D : List ChangeParts) → Sound D → length W ≤ most_waiting → is_full C W (absent C D) ≡ false
never_full C W D s few =
    ap (λ n. nat_lt most_waiting (length W + n)) (none_placed C C [] D W (λ h e. e) (λ h e. cc) s) ∙ within (length W) few where
      within : (n : ℕ) → n ≤ most_waiting → nat_lt most_waiting (n + 0) ≡ false
      within n le = grind (arith, nat_tests)
