-- Vectors of four words, lane by lane.
use Rattle.std.proofs.Common.{◌≡◌, ◌∙◌, sym, ap, ℕ, zero, suc, ◌+◌, ◌-◌, ◌*◌, ◌/◌, ◌%◌, ◌^◌, ◌<◌, List, [], ◌∷◌, map, length, get_or, set, refl, arith, bit_or, below_more, get_or-set_same, get_or-set_other, ◌≢◌}
use Rattle.std.specs.Int.{w32, rotate_right}
use Rattle.std.specs.Simd.Lanes.{zip2}
use Rattle.std.proofs.lemmas.List.{get_or-map, length-map}
use Rattle.std.proofs.lemmas.Simd.{get_or-zip2, length-zip2}
use Rattle.tp_digest.specs.Lanes.{HasInLanes}

pub itself : (x : List ℕ) → length x ≡ 4 → HasInLanes x (λ k. get_or x k 0)
itself x e = record { four = e; at = λ k h. refl }

-- what holds of each of the four lanes
pub in_each : (P : ℕ → Type 0) → P 0 → P 1 → P 2 → P 3 → (k : ℕ) → k < 4 → P k
in_each P p q r s zero h = p
in_each P p q r s (suc zero) h = q
in_each P p q r s (suc (suc zero)) h = r
in_each P p q r s (suc (suc (suc zero))) h = s
in_each P p q r s (suc (suc (suc (suc k)))) h = absurd (omega arith)

-- a splat
pub all_the_same : (y : ℕ) → HasInLanes (y ∷ y ∷ y ∷ y ∷ []) (λ _. y)
all_the_same y = record { four = refl; at = in_each (λ k. get_or (y ∷ y ∷ y ∷ y ∷ []) k 0 ≡ y) refl refl refl refl }

-- an operator on two vectors
pub both : (f : ℕ → ℕ → ℕ) (x y : List ℕ) (g h : ℕ → ℕ) → HasInLanes x g → HasInLanes y h
    → HasInLanes (zip2 f x y) (λ k. f (g k) (h k))
both f x y g h p q = record {
  four = length-zip2 f x y (p.four ∙ sym q.four) ∙ p.four;
  at = λ k l. get_or-zip2 f x y k 0 0 0 (omega (arith, p.four)) (omega (arith, q.four))
      ∙ ap (λ v. f v (get_or y k 0)) (p.at k l) ∙ ap (λ v. f (g k) v) (q.at k l);
}

-- an operator on one
pub each : (f : ℕ → ℕ) (x : List ℕ) (g : ℕ → ℕ) → HasInLanes x g → HasInLanes (map f x) (λ k. f (g k))
each f x g p = record {
  four = length-map x f ∙ p.four;
  at = λ k l. get_or-map f x k 0 0 (omega (arith, p.four)) ∙ ap f (p.at k l);
}

-- words that are equal to those in the lanes are in them too
pub said : (x : List ℕ) (g h : ℕ → ℕ) → HasInLanes x g → ((k : ℕ) → k < 4 → g k ≡ h k) → HasInLanes x h
said x g h p e = record { four = p.four; at = λ k l. p.at k l ∙ e k l }

-- a shift right, or'd with the shift left by the other bits, is the rotation
pub rotation : (v by : ℕ) → 0 < by → by < 32
    → bit_or (v / 2 ^ by) (v * 2 ^ (32 - by) % 2 ^ 32) ≡ rotate_right w32 v by
rotation v by positive below =
    let small : by % 32 ≡ by = omega arith in
    let rest : (32 - by) % 32 ≡ 32 - by = omega arith in
    simp (small, rest)

-- a vector of these four words
pub of_four : (a b c d : ℕ) (g : ℕ → ℕ) → a ≡ g 0 → b ≡ g 1 → c ≡ g 2 → d ≡ g 3 → HasInLanes (a ∷ b ∷ c ∷ d ∷ []) g
of_four a b c d g p q r s = record { four = refl; at = in_each (λ k. get_or (a ∷ b ∷ c ∷ d ∷ []) k 0 ≡ g k) p q r s }

-- the step of a loop that writes vector t
pub one_more : (ws : List (List ℕ)) (t : ℕ) (x : List ℕ) (g : ℕ → ℕ → ℕ) → t < length ws
    → ((s : ℕ) → s < t → HasInLanes (get_or ws s []) (g s)) → HasInLanes x (g t)
    → (s : ℕ) → s < t + 1 → HasInLanes (get_or (set ws t x) s []) (g s)
one_more ws t x g room before here =
    let P : ℕ → Type 0 = λ s. HasInLanes (get_or (set ws t x) s []) (g s) in
    below_more P t
    (λ s l. let other : s ≢ t = omega arith in rw get_or-set_other (before s l))
    (rw get_or-set_same here)
