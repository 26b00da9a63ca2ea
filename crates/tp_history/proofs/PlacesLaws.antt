-- Laws of places.
use Rattle.tp_history.proofs.Common.{◌≡◌, ◌⊎◌, ℕ, suc, zero, ◌+◌, ◌<◌, ◌≤◌, inl, inr, List, [], ◌∷◌, ◌++◌, length, Bool, true, false, ◌||◌, cond, Some, None, refl, sym, ap, ◌∙◌, subst, arith, add-zero, add-one, IsTrue, ◌↔◌, ◌&&◌, drop, get_or, drop-cons, is_some, slice_get, slice_get_past, In, truth, not_true, In-slice_get, Hash, same_hash, same_hash-same, same_hash-itself, ChangeParts, hash_of, has, has_all, place_from, HasAt, get_or_from_slice_get, op_count, past, ends_of}
use Rattle.tp_history.proofs.NamedLaws.{In-has}

-- ---- a list with one more

-- what is at a place of a longer list was there, or is the last
pub at_push : {X : Type 0} (xs : List X) (y : X) (i : ℕ) (x : X) → slice_get (xs ++ y ∷ []) i ≡ Some x → (slice_get xs i ≡ Some x) ⊎ ((i ≡ length xs) × (x ≡ y))
at_push [] y zero x e = let s : y ≡ x = cc in inr (refl, sym s)
at_push [] y (suc i) x e = cc
at_push (z ∷ xs) y zero x e = inl e
at_push (z ∷ xs) y (suc i) x e = elim (at_push xs y i x e) [ inl f ↦ inl f | inr w ↦ inr (ap suc w.0, w.1) ]

pub at_left : {X : Type 0} (xs : List X) (y : X) (i : ℕ) → i < length xs → slice_get (xs ++ y ∷ []) i ≡ slice_get xs i
at_left [] y i h = absurd (omega arith)
at_left (x ∷ xs) y zero h = refl
at_left (x ∷ xs) y (suc i) h = at_left xs y i (omega arith)

pub at_last : {X : Type 0} (xs : List X) (y : X) → slice_get (xs ++ y ∷ []) (length xs) ≡ Some y
at_last [] y = refl
at_last (x ∷ xs) y = at_last xs y

pub place_from-none : (n : ℕ) (C : List ChangeParts) (h : Hash) → has C h ≡ false → place_from n C h ≡ None
place_from-none n [] h e = refl
place_from-none n (c ∷ C) h e =
    elim (same_hash (hash_of c) h) as (λ b. (b || has C h) ≡ false → cond b (Some n) (place_from (n + 1) C h) ≡ None) [
      | true ↦ λ t. cc
      | false ↦ λ t. place_from-none (n + 1) C h t
    ] e

-- a hash that is there has a place, with a change that has it
pub place_from-there : (n : ℕ) (C : List ChangeParts) (h : Hash) → has C h ≡ true → (i : ℕ) × (place_from n C h ≡ Some (n + i)) × (i < length C) × HasAt C i h
place_from-there n [] h e = cc
place_from-there n (c ∷ C) h e =
    elim (same_hash (hash_of c) h) as (λ b. same_hash (hash_of c) h ≡ b → (b || has C h) ≡ true → (i : ℕ) × (cond b (Some n) (place_from (n + 1) C h) ≡ Some (n + i)) × (i < length (c ∷ C)) × HasAt (c ∷ C) i h) [
      | true ↦ λ s t. (0, ap Some (sym (add-zero n)), omega arith, (c, refl, same_hash-same (hash_of c) h s))
      | false ↦ λ s t.
          let w = place_from-there (n + 1) C h t in
          let k : ℕ = w.0 in
          let e : n + 1 + k ≡ n + suc k = omega arith in
          let below : k < length C = w.2 in
          let below_too : suc k < length (c ∷ C) = omega arith in
          (suc k, w.1 ∙ ap Some e, below_too, w.3)
    ] refl e

pub HasAt-has : (C : List ChangeParts) (i : ℕ) (h : Hash) → HasAt C i h → has C h ≡ true
HasAt-has C i h w = In-has C w.0 h (In-slice_get C i w.0 w.1) w.2

-- the place that a hash has is within the list, and has it
pub place_from-some : (C : List ChangeParts) (h : Hash) (i : ℕ) → Some i ≡ place_from 0 C h → (i < length C) × HasAt C i h
place_from-some C h i e =
    elim (truth (has C h)) [
      | inl t ↦
          let w = place_from-there 0 C h t in
          let k : ℕ = w.0 in
          let zero_first : 0 + k ≡ k = omega arith in
          let same : Some i ≡ Some k = e ∙ w.1 ∙ ap Some zero_first in
          let at : k ≡ i = cc in
          (subst (λ j. j < length C) at w.2, subst (λ j. HasAt C j h) at w.3)
      | inr f ↦ let bad : Some i ≡ None = e ∙ place_from-none 0 C h f in cc
    ]

pub has-from_place : (C : List ChangeParts) (h : Hash) → None ≡ place_from 0 C h → has C h ≡ false
has-from_place C h e =
    not_true (has C h) (λ t. let w = place_from-there 0 C h t in let bad : None ≡ Some (0 + w.0) = e ∙ w.1 in cc)

-- places are counted on from the first
pub place_from-low : (n : ℕ) (C : List ChangeParts) (h : Hash) (m : ℕ) → Some m ≡ place_from n C h → n ≤ m
place_from-low n C h m e =
    elim (truth (has C h)) [
      | inl t ↦
          let w = place_from-there n C h t in
          let k : ℕ = w.0 in
          let same : Some m ≡ Some (n + k) = e ∙ w.1 in
          let at : m ≡ n + k = cc in
          omega arith
      | inr f ↦ let bad : Some m ≡ None = e ∙ place_from-none n C h f in cc
    ]

-- ---- the test at a place

pub has_at_by : (C : List ChangeParts) (i : ℕ) (x : ChangeParts) (g h : Hash) (b : Bool) → slice_get C i ≡ Some x → g ≡ hash_of x → b ≡ same_hash g h → IsTrue b ↔ HasAt C i h
has_at_by C i x g h b e f t = (
  λ y. let s : same_hash g h ≡ true = sym t ∙ y in (x, e, sym f ∙ same_hash-same g h s),
  λ w.
      let found : Some w.0 ≡ Some x = sym w.1 ∙ e in
      let one : w.0 ≡ x = cc in
      let same : g ≡ h = f ∙ ap hash_of (sym one) ∙ w.2 in
      t ∙ ap (same_hash g) (sym same) ∙ same_hash-itself g,
)

pub has_at_past : (C : List ChangeParts) (i : ℕ) (h : Hash) → length C ≤ i → IsTrue false ↔ HasAt C i h
has_at_past C i h past = (
  λ y. let bad : false ≡ true = y in cc,
  λ w. let bad : None ≡ Some w.0 = sym (slice_get_past C i past) ∙ w.1 in cc,
)

-- a hash is there where it has a place
pub is_some-place_from : (n : ℕ) (C : List ChangeParts) (h : Hash) → is_some (place_from n C h) ≡ has C h
is_some-place_from n [] h = refl
is_some-place_from n (c ∷ C) h =
    elim (same_hash (hash_of c) h) as (λ b. is_some (cond b (Some n) (place_from (n + 1) C h)) ≡ (b || has C h)) [
      | true ↦ refl
      | false ↦ is_some-place_from (n + 1) C h
    ]

-- ---- the steps over hashes

pub has_all-drop : (C : List ChangeParts) (H : List Hash) (i : ℕ) (d : Hash) → i < length H → has_all C (drop i H) ≡ (has C (get_or H i d) && has_all C (drop (i + 1) H))
has_all-drop C H i d small =
    ap (has_all C) (drop-cons H i d small) ∙ ap (λ k. has C (get_or H i d) && has_all C (drop k H)) (sym (add-one i))

pub has_all-stop : (C : List ChangeParts) (H : List Hash) (i : ℕ) (d : Hash) → i < length H → has_all C (drop i H) ≡ has_all C H → has C (get_or H i d) ≡ false → false ≡ has_all C H
has_all-stop C H i d small e f = sym (sym e ∙ has_all-drop C H i d small ∙ ap (λ b. b && has_all C (drop (i + 1) H)) f)

pub has_all-on : (C : List ChangeParts) (H : List Hash) (i : ℕ) (d : Hash) → i < length H → has_all C (drop i H) ≡ has_all C H → has C (get_or H i d) ≡ true → has_all C (drop (i + 1) H) ≡ has_all C H
has_all-on C H i d small e f = sym (sym e ∙ has_all-drop C H i d small ∙ ap (λ b. b && has_all C (drop (i + 1) H)) f)

-- the change that is read at the place of a hash has it
pub change_at : (C : List ChangeParts) (h : Hash) (i : ℕ) (x : ChangeParts) → Some i ≡ place_from 0 C h → slice_get C i ≡ Some x → In x C × (hash_of x ≡ h)
change_at C h i x e here =
    let at = (place_from-some C h i e).1 in
    let found : Some at.0 ≡ Some x = sym at.1 ∙ here in
    let one : at.0 ≡ x = cc in
    (In-slice_get C i x here, ap hash_of (sym one) ∙ at.2)

-- ---- where counters end

ends_of-at : (C : List ChangeParts) (i : ℕ) (c : ChangeParts) → slice_get C i ≡ Some c → slice_get (ends_of C) i ≡ Some (c.start + op_count c)
ends_of-at [] i c e = cc
ends_of-at (x ∷ C) zero c e = let s : x ≡ c = cc in rw s refl
ends_of-at (x ∷ C) (suc i) c e = ends_of-at C i c e

pub end_at : (C : List ChangeParts) (i : ℕ) (c : ChangeParts) → slice_get C i ≡ Some c → get_or (ends_of C) i 0 ≡ c.start + op_count c
end_at C i c e = get_or_from_slice_get (ends_of C) i (c.start + op_count c) 0 (ends_of-at C i c e)
