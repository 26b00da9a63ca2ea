-- Laws of what is outside a past.
use Rattle.tp_ancestry.proofs.Common.{◌≡◌, List, [], ◌∷◌, true, false, ◌||◌, cond, refl, sym, ap, ◌<◌, ℕ, suc, zero, ◌+◌, ◌++◌, length, Bool, Some, drop, get_or, take, map, not, ◌∙◌, arith, add-one, append_assoc, slice_get, take_more, get_or-map, length-map, Hash, ChangeParts, names, is_needed, past, marks, since, skip}

pub skip-marks : (C : List ChangeParts) (H : List Hash) → skip (marks C H) C ≡ since C H
skip-marks [] H = refl
skip-marks (c ∷ C) H =
    elim (names H c || is_needed (past C H) c) as (λ b. cond b (skip (marks C H) C) (c ∷ skip (marks C H) C) ≡ cond b (since C H) (c ∷ since C H)) [
      | true ↦ skip-marks C H
      | false ↦ ap (λ l. c ∷ l) (skip-marks C H)
    ]

-- ---- the steps of the copying

skip-step : (bs : List Bool) (C : List ChangeParts) (i : ℕ) (c : ChangeParts) → length bs ≡ length C → slice_get C i ≡ Some c → skip (drop i bs) (drop i C) ≡ cond (get_or bs i false) (skip (drop (suc i) bs) (drop (suc i) C)) (c ∷ skip (drop (suc i) bs) (drop (suc i) C))
skip-step bs [] i c l e = cc
skip-step [] (x ∷ C) i c l e = absurd (omega arith)
skip-step (b ∷ bs) (x ∷ C) zero c l e = let s : x ≡ c = cc in rw s refl
skip-step (b ∷ bs) (x ∷ C) (suc i) c l e = let less : length bs ≡ length C = omega arith in skip-step bs C i c less e

-- a change that isn't marked is put at the end
pub skip-on : (bs : List Bool) (C : List ChangeParts) (i : ℕ) (x : ChangeParts) (xs ys : List ChangeParts) → length bs ≡ length C → slice_get C i ≡ Some x → get_or bs i false ≡ false
    → ys ≡ xs ++ x ∷ [] → xs ++ skip (drop i bs) (drop i C) ≡ skip bs C → ys ++ skip (drop (i + 1) bs) (drop (i + 1) C) ≡ skip bs C
skip-on bs C i x xs ys l e f g h =
    rw (add-one, g) (append_assoc xs (x ∷ []) (skip (drop (suc i) bs) (drop (suc i) C))
    ∙ ap (λ r. xs ++ r) (sym (skip-step bs C i x l e ∙ ap (λ b. cond b (skip (drop (suc i) bs) (drop (suc i) C)) (x ∷ skip (drop (suc i) bs) (drop (suc i) C))) f)) ∙ h)

-- one that is marked is passed by
pub skip-by : (bs : List Bool) (C : List ChangeParts) (i : ℕ) (x : ChangeParts) (xs ys : List ChangeParts) → length bs ≡ length C → slice_get C i ≡ Some x → get_or bs i false ≡ true
    → ys ≡ xs → xs ++ skip (drop i bs) (drop i C) ≡ skip bs C → ys ++ skip (drop (i + 1) bs) (drop (i + 1) C) ≡ skip bs C
skip-by bs C i x xs ys l e f g h =
    rw (add-one, g) (ap (λ r. xs ++ r) (sym (skip-step bs C i x l e ∙ ap (λ b. cond b (skip (drop (suc i) bs) (drop (suc i) C)) (x ∷ skip (drop (suc i) bs) (drop (suc i) C))) f)) ∙ h)

-- changes that are marked up to a place are passed by at once
pub skip-prefix : (bs : List Bool) (C : List ChangeParts) (n : ℕ) → length bs ≡ length C → ((i : ℕ) → i < length C → i < n → get_or bs i false ≡ true) → skip (drop n bs) (drop n C) ≡ skip bs C
skip-prefix bs C zero l f = refl
skip-prefix [] [] (suc n) l f = refl
skip-prefix [] (c ∷ C) (suc n) l f = absurd (omega arith)
skip-prefix (b ∷ bs) [] (suc n) l f = absurd (omega arith)
skip-prefix (b ∷ bs) (c ∷ C) (suc n) l f =
    let less : length bs ≡ length C = omega arith in
    let marked : b ≡ true = f zero (omega arith) (omega arith) in
    skip-prefix bs C n less (λ i small near. f (suc i) (omega arith) (omega arith)) ∙ sym (ap (λ t. cond t (skip bs C) (c ∷ skip bs C)) marked)

-- the marks the other way round, one more of them
pub not_more : (bs : List Bool) (i : ℕ) → i < length bs → take (i + 1) (map not bs) ≡ take i (map not bs) ++ not (get_or bs i false) ∷ []
not_more bs i small =
    take_more (map not bs) i true (let long = length-map bs not in omega arith) ∙ ap (λ b. take i (map not bs) ++ b ∷ []) (get_or-map not bs i false true small)
