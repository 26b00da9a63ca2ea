-- A list in which equal neighbours are one: its elements, and how each is related to the next.
use Rattle.std.proofs.Common.{◌≡◌, ◌∙◌, ◌||◌, ℕ, ◌+◌, zero, suc, Bool, true, false, cond, refl, ap, sym, subst, List, [], ◌∷◌, length, get_or, arith, add-one}
use Rattle.std.specs.List.{AllAdjacentBelow, list_any, dedup, dedup_from}

further : (n : ℕ) → suc n + 1 ≡ suc (n + 1)
further n = add-one (suc n) ∙ ap (λ m. suc m) (sym (add-one n))

once : (a b : Bool) → (a || (a || b)) ≡ (a || b)
once true b = refl
once false b = refl

module _ {X : Type 0} (E : X → X → Bool) (exact : (x y : X) → E x y ≡ true → x ≡ y) where
  any_by : (p : X → Bool) (k x : X) (xs : List X) (b : Bool) → E x k ≡ b → list_any p (dedup_from E k xs) ≡ (p k || list_any p xs) → list_any p (dedup_from E x xs) ≡ (p x || list_any p xs)
      → list_any p (cond b (dedup_from E k xs) (k ∷ dedup_from E x xs)) ≡ (p k || (p x || list_any p xs))
  any_by p k x xs true e at_k at_x = at_k ∙ sym (once (p k) (list_any p xs)) ∙ ap (λ y. p k || (p y || list_any p xs)) (sym (exact x k e))
  any_by p k x xs false e at_k at_x = ap (λ c. p k || c) at_x

  any_from : (p : X → Bool) (k : X) (xs : List X) → list_any p (dedup_from E k xs) ≡ (p k || list_any p xs)
  any_from p k [] = refl
  any_from p k (x ∷ xs) = any_by p k x xs (E x k) refl (any_from p k xs) (any_from p x xs)

  -- the list has the elements that it had
  pub any_dedup : (p : X → Bool) (xs : List X) → list_any p (dedup E xs) ≡ list_any p xs
  any_dedup p [] = refl
  any_dedup p (x ∷ xs) = any_from p x xs

  module _ (R : X → X → Type 0) where
    -- each is in the relation to the next
    abbrev Chain : X → List X → Type 0
    Chain k [] = Unit {0}
    Chain k (x ∷ xs) = R k x × Chain x xs

    abbrev Chained : List X → Type 0
    Chained [] = Unit {0}
    Chained (x ∷ xs) = Chain x xs

    after_by : (j k x : X) (xs : List X) (b : Bool) → E x k ≡ b → R j k → Chain k (x ∷ xs) → ((i l : X) → R i l → Chain l xs → Chain i (dedup_from E l xs))
        → Chain j (cond b (dedup_from E k xs) (k ∷ dedup_from E x xs))
    after_by j k x xs true e first h by = by j k first (subst (λ y. Chain y xs) (exact x k e) h.1)
    after_by j k x xs false e first h by = (first, by k x h.0 h.1)

    beyond : (xs : List X) (j k : X) → R j k → Chain k xs → Chain j (dedup_from E k xs)
    beyond [] j k first h = (first, tt)
    beyond (x ∷ xs) j k first h = after_by j k x xs (E x k) refl first h (beyond xs)

    chained_by : (k x : X) (xs : List X) (b : Bool) → E x k ≡ b → Chain k (x ∷ xs) → (Chain k xs → Chained (dedup_from E k xs))
        → Chained (cond b (dedup_from E k xs) (k ∷ dedup_from E x xs))
    chained_by k x xs true e h by = by (subst (λ y. Chain y xs) (exact x k e) h.1)
    chained_by k x xs false e h by = beyond xs k x h.0 h.1

    chained : (xs : List X) (k : X) → Chain k xs → Chained (dedup_from E k xs)
    chained [] k h = tt
    chained (x ∷ xs) k h = chained_by k x xs (E x k) refl h (chained xs k)

    to_chain : (k : X) (xs : List X) → AllAdjacentBelow R (k ∷ xs) (length (k ∷ xs)) → Chain k xs
    to_chain k [] h = tt
    to_chain k (x ∷ xs) h = (h 0 k (omega arith), to_chain x xs (λ n d lt. subst (λ m. R (get_or (x ∷ xs) n d) (get_or (k ∷ x ∷ xs) m d)) (further n) (h (suc n) d (omega (arith, lt)))))

    from_chain : (k : X) (xs : List X) → Chain k xs → AllAdjacentBelow R (k ∷ xs) (length (k ∷ xs))
    from_chain k [] h n d lt = absurd (omega (arith, lt))
    from_chain k (x ∷ xs) h zero d lt = h.0
    from_chain k (x ∷ xs) h (suc n) d lt = subst (λ m. R (get_or (x ∷ xs) n d) (get_or (k ∷ x ∷ xs) m d)) (sym (further n)) (from_chain x xs h.1 n d (omega (arith, lt)))

    from_chained : (xs : List X) → Chained xs → AllAdjacentBelow R xs (length xs)
    from_chained [] h = λ n d lt. absurd (omega (arith, lt))
    from_chained (x ∷ xs) h = from_chain x xs h

    -- each is still in the relation to the next
    pub adjacent_dedup : (xs : List X) → AllAdjacentBelow R xs (length xs) → AllAdjacentBelow R (dedup E xs) (length (dedup E xs))
    adjacent_dedup [] h = h
    adjacent_dedup (x ∷ xs) h = from_chained (dedup_from E x xs) (chained xs x (to_chain x xs h))
