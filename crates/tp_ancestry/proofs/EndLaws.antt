-- The next counter of a past is that of the changes that are named: what they depend on ends before they start.
use Rattle.tp_ancestry.proofs.Common.{◌≡◌, ◌⊎◌, length-append, ℕ, suc, zero, ◌+◌, ◌<◌, ◌≤◌, inl, inr, List, [], ◌∷◌, ◌++◌, length, true, false, ◌||◌, cond, Some, drop, get_or, refl, sym, ap, ◌∙◌, subst, arith, add-one, drop-cons, slice_get, drop_all, slice_get_within, nat_tests, In, AllIn, truth, never, not_true, or_cases, In-left, In-split, Hash, same_hash, same_hash-same, same_hash-itself, ChangeParts, hash_of, op_count, later, next_counter, later-left, later-right, later-most, next_counter-above, one-next_counter, next_counter-least, le_both, later-assoc, later-end, HashesOnce, names, has, is_needed, past, place_from, ends_of, Sound}
use Rattle.tp_ancestry.specs.Ends.{end_named, latest_end, AreEnds}
use Rattle.tp_ancestry.specs.declared.lists.TheConstants.{WIDE}
use Rattle.tp_history.proofs.NamedLaws.{names-In, In-has, has-In, has_all-In}
use Rattle.tp_history.proofs.PastLaws.{past-In, past-named, with_reached-In}
use Rattle.tp_history.proofs.SoundLaws.{Fits-at, hashes_apart}
use Rattle.tp_history.proofs.MarksLaws.{hashes_once}
use Rattle.tp_history.proofs.PlacesLaws.{at_push, place_from-low}

-- ---- by place

-- the ends where a change enters
pub AreEnds-push : (C : List ChangeParts) (x : ChangeParts) (ns : List ℕ) (n : ℕ) → AreEnds C ns → (n < WIDE → n ≡ x.start + op_count x) → AreEnds (C ++ x ∷ []) (ns ++ n ∷ [])
AreEnds-push C x ns n w own =
    let same : length ns ≡ length C = w.each in
    let one : length (ns ++ n ∷ []) ≡ length ns + 1 = length-append ns (n ∷ []) in
    let two : length (C ++ x ∷ []) ≡ length C + 1 = length-append C (x ∷ []) in
    record {
      each = omega arith;
      known = λ i c m at here small. by i c m (at_push C x i c at) (at_push ns n i m here) small;
    } where
      by : (i : ℕ) (c : ChangeParts) (m : ℕ) → ((slice_get C i ≡ Some c) ⊎ ((i ≡ length C) × (c ≡ x))) → ((slice_get ns i ≡ Some m) ⊎ ((i ≡ length ns) × (m ≡ n))) → m < WIDE → m ≡ c.start + op_count c
      by i c m (inl at) (inl here) small = w.known i c m at here small
      by i c m (inl at) (inr z) small =
          let low : i < length C = slice_get_within C i c at in
          let same : length ns ≡ length C = w.each in
          let end : i ≡ length ns = z.0 in
          absurd (omega arith)
      by i c m (inr z) (inl here) small =
          let low : i < length ns = slice_get_within ns i m here in
          let same : length ns ≡ length C = w.each in
          let end : i ≡ length C = z.0 in
          absurd (omega arith)
      by i c m (inr z) (inr y) small =
          let below : n < WIDE = subst (λ (k : ℕ). k < WIDE) y.1 small in
          y.1 ∙ own below ∙ ap (λ (d : ChangeParts). d.start + op_count d) (sym z.1)

-- ---- of one hash

-- at the place of a hash is its end
end_from : (n i : ℕ) (C : List ChangeParts) (h : Hash) → Some (n + i) ≡ place_from n C h → get_or (ends_of C) i 0 ≡ end_named C h
end_from n i [] h e = cc
end_from n zero (c ∷ C) h e =
    elim (same_hash (hash_of c) h) as (λ b. Some (n + zero) ≡ cond b (Some n) (place_from (n + 1) C h) → c.start + op_count c ≡ cond b (c.start + op_count c) (end_named C h)) [
      | true ↦ λ f. refl
      | false ↦ λ f. let low : n + 1 ≤ n + zero = place_from-low (n + 1) C h (n + zero) f in absurd (omega arith)
    ] e
end_from n (suc i) (c ∷ C) h e =
    elim (same_hash (hash_of c) h) as (λ b. Some (n + suc i) ≡ cond b (Some n) (place_from (n + 1) C h) → get_or (ends_of C) i 0 ≡ cond b (c.start + op_count c) (end_named C h)) [
      | true ↦ λ f. let s : n + suc i ≡ n = cc in absurd (omega arith)
      | false ↦ λ f. let step : n + 1 + i ≡ n + suc i = omega arith in end_from (n + 1) i C h (ap Some step ∙ f)
    ] e

pub end_at_place : (C : List ChangeParts) (h : Hash) (i : ℕ) → Some i ≡ place_from 0 C h → get_or (ends_of C) i 0 ≡ end_named C h
end_at_place C h i e = let first : 0 + i ≡ i = omega arith in end_from 0 i C h (ap Some first ∙ e)

end_lacking : (C : List ChangeParts) (h : Hash) → has C h ≡ false → 0 ≡ end_named C h
end_lacking [] h e = refl
end_lacking (c ∷ C) h e =
    elim (same_hash (hash_of c) h) as (λ b. (b || has C h) ≡ false → 0 ≡ cond b (c.start + op_count c) (end_named C h)) [
      | true ↦ λ f. cc
      | false ↦ λ f. end_lacking C h f
    ] e

end_there : (C : List ChangeParts) (d : ChangeParts) → HashesOnce C → In d C → end_named C (hash_of d) ≡ d.start + op_count d
end_there [] d o i = absurd i
end_there (c ∷ C) d o (inl e) = rw e (ap (λ b. cond b (c.start + op_count c) (end_named C (hash_of c))) (same_hash-itself (hash_of c)))
end_there (c ∷ C) d o (inr i) =
    let vectors : same_hash (hash_of c) (hash_of d) ≡ false =
    not_true (same_hash (hash_of c) (hash_of d)) (λ t. never (In-has C d (hash_of c) i (sym (same_hash-same (hash_of c) (hash_of d) t))) o.0) in
    ap (λ b. cond b (c.start + op_count c) (end_named C (hash_of d))) vectors ∙ end_there C d o.1 i

-- ---- of a past

-- a change ends before one starts that depends on it
ends_before : (C : List ChangeParts) → Sound C → (c d : ChangeParts) → In c C → In d C → names d.deps c ≡ true → c.start + op_count c ≤ d.start
ends_before C s c d i j e =
    let w = In-split d C j in
    let A = w.0 in
    let B = w.1 in
    let whole : Sound (A ++ d ∷ B) = subst Sound w.2 s in
    let f = Fits-at A d B whole in
    let found = has-In A (hash_of c) (has_all-In A d.deps f.deps (hash_of c) (names-In d.deps c e)) in
    let there : In found.0 C = subst (λ l. In found.0 l) (sym w.2) (In-left found.0 A (d ∷ B) found.1) in
    let one : found.0 ≡ c = hashes_apart C s found.0 c there i found.2 in
    let before : In c A = subst (λ x. In x A) one found.1 in
    let above : c.start + op_count c ≤ next_counter (past A d.deps) = next_counter-above (past A d.deps) c (past-named A d.deps c before (names-In d.deps c e)) in
    let start : d.start ≡ next_counter (past A d.deps) = f.start in
    omega arith

-- each change of a past ends no later than one that is named
top : (C D : List ChangeParts) (H : List Hash) → Sound C → AllIn D C → (c : ChangeParts) → In c (past D H) → (d : ChangeParts) × In d C × (names H d ≡ true) × (c.start + op_count c ≤ d.start + op_count d)
top C [] H s more c i = absurd i
top C (x ∷ D) H s more c i =
    elim (with_reached-In H x c (past D H) i) [
      | inl w ↦ elim (or_cases (names H x) (is_needed (past D H) x) w.1) [
        | inl t ↦ rw w.0 (x, more x (inl refl), t, itself (x.start + op_count x))
        | inr t ↦
            let n = needing (past D H) x t in
            let r = top C D H s (λ y j. more y (inr j)) n.0 n.1 in
            let low : x.start + op_count x ≤ n.0.start = ends_before C s x n.0 (more x (inl refl)) (more n.0 (inr (past-In D H n.0 n.1))) n.2 in
            let high : n.0.start + op_count n.0 ≤ r.0.start + op_count r.0 = r.3 in
            let all : x.start + op_count x ≤ r.0.start + op_count r.0 = omega arith in
            rw w.0 (r.0, r.1, r.2, all)
      ]
      | inr j ↦ top C D H s (λ y k. more y (inr k)) c j
    ] where
      itself : (n : ℕ) → n ≤ n
      itself n = omega arith

      needing : (P : List ChangeParts) (x : ChangeParts) → is_needed P x ≡ true → (d : ChangeParts) × In d P × (names d.deps x ≡ true)
      needing [] x t = cc
      needing (d ∷ P) x t = elim (or_cases (names d.deps x) (is_needed P x) t) [
        | inl u ↦ (d, inl refl, u)
        | inr u ↦ let w = needing P x u in (w.0, inr w.1, w.2)
      ]

pub one-latest_end : (C : List ChangeParts) (H : List Hash) → 1 ≤ latest_end C H
one-latest_end C [] = omega arith
one-latest_end C (h ∷ H) = let low = one-latest_end C H in let right = later-right (end_named C h) (latest_end C H) in omega arith

latest_end-above : (C : List ChangeParts) (H : List Hash) (h : Hash) → In h H → end_named C h ≤ latest_end C H
latest_end-above C [] h i = absurd i
latest_end-above C (g ∷ H) h (inl e) = subst (λ k. end_named C k ≤ later (end_named C g) (latest_end C H)) (sym e) (later-left (end_named C g) (latest_end C H))
latest_end-above C (g ∷ H) h (inr i) = let up = latest_end-above C H h i in let right = later-right (end_named C g) (latest_end C H) in omega arith

latest_end-least : (C : List ChangeParts) (H : List Hash) (n : ℕ) → 1 ≤ n → ((h : Hash) → In h H → end_named C h ≤ n) → latest_end C H ≤ n
latest_end-least C [] n low f = low
latest_end-least C (h ∷ H) n low f = later-most (end_named C h) (latest_end C H) n (f h (inl refl)) (latest_end-least C H n low (λ g i. f g (inr i)))

pub latest_end-past : (C : List ChangeParts) (H : List Hash) → Sound C → latest_end C H ≡ next_counter (past C H)
latest_end-past C H s =
    le_both (latest_end C H) (next_counter (past C H))
    (latest_end-least C H (next_counter (past C H)) (one-next_counter (past C H)) named)
    (next_counter-least (past C H) (latest_end C H) (one-latest_end C H) ended) where
      named : (h : Hash) → In h H → end_named C h ≤ next_counter (past C H)
      named h i = elim (truth (has C h)) [
        | inl t ↦
            let w = has-In C h t in
            let e : end_named C h ≡ w.0.start + op_count w.0 = ap (end_named C) (sym w.2) ∙ end_there C w.0 (hashes_once C s) w.1 in
            let above : w.0.start + op_count w.0 ≤ next_counter (past C H) = next_counter-above (past C H) w.0 (past-named C H w.0 w.1 (subst (λ g. In g H) (sym w.2) i)) in
            omega arith
        | inr f ↦ let e : 0 ≡ end_named C h = end_lacking C h f in omega arith
      ]

      ended : (c : ChangeParts) → In c (past C H) → c.start + op_count c ≤ latest_end C H
      ended c i =
          let w = top C C H s (λ x j. j) c i in
          let e : end_named C (hash_of w.0) ≡ w.0.start + op_count w.0 = end_there C w.0 (hashes_once C s) w.1 in
          let above : end_named C (hash_of w.0) ≤ latest_end C H = latest_end-above C H (hash_of w.0) (names-In H w.0 w.2) in
          let low : c.start + op_count c ≤ w.0.start + op_count w.0 = w.3 in
          omega arith

-- ---- the steps of the loop

pub end-on : (C : List ChangeParts) (H : List Hash) (i n e : ℕ) (d : Hash) → i < length H → e ≡ end_named C (get_or H i d) → later n (latest_end C (drop i H)) ≡ latest_end C H
    → later (later n e) (latest_end C (drop (i + 1) H)) ≡ latest_end C H
end-on C H i n e d small f g =
    later-assoc n e (latest_end C (drop (i + 1) H))
    ∙ ap (λ k. later n (later k (latest_end C (drop (i + 1) H)))) f
    ∙ ap (λ k. later n (later (end_named C (get_or H i d)) (latest_end C (drop k H)))) (add-one i)
    ∙ ap (λ l. later n (latest_end C l)) (sym (drop-cons H i d small))
    ∙ g

pub end-last : (C : List ChangeParts) (H : List Hash) (i n : ℕ) → length H ≤ i → 1 ≤ n → later n (latest_end C (drop i H)) ≡ latest_end C H → n ≡ latest_end C H
end-last C H i n past low e = sym (later-end n low) ∙ ap (λ l. later n (latest_end C l)) (sym (drop_all i H past)) ∙ e

pub end-first : (C : List ChangeParts) (H : List Hash) → later 1 (latest_end C H) ≡ latest_end C H
end-first C H = let low = one-latest_end C H in grind (arith, nat_tests)

pub end-grows : (n e : ℕ) → 1 ≤ n → 1 ≤ later n e
end-grows n e low = let left = later-left n e in omega arith
