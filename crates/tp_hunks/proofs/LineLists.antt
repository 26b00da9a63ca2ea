-- Lines in lists: parts of them, and how many are alike.
use Rattle.std.proofs.Common.{◌≡◌, ◌∙◌, ℕ, zero, suc, ◌+◌, ◌-◌, ◌<◌, ◌≤◌, List, [], ◌∷◌, ◌++◌, length, get_or, drop, map, reverse, Bool, true, false, cond, refl, ap, sym, arith}
use Rattle.std.specs.Borrow.{Bor}
use Rattle.std.specs.List.{common_prefix_len}
use Rattle.std.specs.Str.{bytes_eq}
use Rattle.std.proofs.lemmas.List.{drop_all, get_or-reverse, length-reverse, map-append}
use Rattle.std.proofs.lemmas.List.Sums.{common_prefix_len-drop_no, common_prefix_len-drop_yes}
use mathlib.Core.List.{reverse-cons}

-- the lines that are lent
abbrev pub texts : List (Bor (List ℕ)) → List (List ℕ)
texts = map (λ l. l.now)

-- two lent lines are alike
abbrev pub alike : Bor (List ℕ) → Bor (List ℕ) → Bool
alike x y = bytes_eq x.now y.now

-- as many lent lines are alike as lines
pub prefix_of_texts : (a b : List (Bor (List ℕ))) → common_prefix_len bytes_eq (texts a) (texts b) ≡ common_prefix_len alike a b
prefix_of_texts [] b = refl
prefix_of_texts (x ∷ a) [] = refl
prefix_of_texts (x ∷ a) (y ∷ b) = ap (λ n. cond (alike x y) (1 + n) 0) (prefix_of_texts a b)

-- where one of the lists ends, no more are alike
pub prefix_at_end : (a b : List (Bor (List ℕ))) (i : ℕ) → length a ≤ i → common_prefix_len alike (drop i a) (drop i b) ≡ 0
prefix_at_end [] b zero le = refl
prefix_at_end [] b (suc i) le = refl
prefix_at_end (x ∷ a) b zero le = absurd (omega arith)
prefix_at_end (x ∷ a) [] (suc i) le = rw (drop_all i a (omega arith)) refl
prefix_at_end (x ∷ a) (y ∷ b) (suc i) le = prefix_at_end a b i (omega arith)

-- what is reversed, as lines
pub reverse-texts : (a : List (Bor (List ℕ))) → reverse (texts a) ≡ texts (reverse a)
reverse-texts [] = refl
reverse-texts (x ∷ a) =
    reverse-cons x.now (texts a) ∙ (ap (λ l. l ++ x.now ∷ []) (reverse-texts a) ∙ (sym (map-append (λ l. l.now) (reverse a) (x ∷ [])) ∙ ap texts (sym (reverse-cons x a))))

nothing : (l : List (Bor (List ℕ))) → common_prefix_len alike l [] ≡ 0
nothing [] = refl
nothing (y ∷ l) = refl

pub prefix_at_other_end : (a b : List (Bor (List ℕ))) (i : ℕ) → length b ≤ i → common_prefix_len alike (drop i a) (drop i b) ≡ 0
prefix_at_other_end a b i le = rw (drop_all i b le) (nothing (drop i a))

-- `same` lines are alike, where that many are and then no more
pub start_ends : (a b : List (Bor (List ℕ))) (same : ℕ) → same + common_prefix_len alike (drop same a) (drop same b) ≡ common_prefix_len alike a b
    → common_prefix_len alike (drop same a) (drop same b) ≡ 0 → same ≡ common_prefix_len bytes_eq (texts a) (texts b)
start_ends a b same so_far none = let all = prefix_of_texts a b in omega arith

-- `same` lines are alike at their ends, where that many are and then no more
pub end_ends : (a b : List (Bor (List ℕ))) (same : ℕ)
    → same + common_prefix_len alike (drop same (reverse a)) (drop same (reverse b)) ≡ common_prefix_len alike (reverse a) (reverse b)
    → common_prefix_len alike (drop same (reverse a)) (drop same (reverse b)) ≡ 0
    → same ≡ common_prefix_len bytes_eq (reverse (texts a)) (reverse (texts b))
end_ends a b same so_far none =
    start_ends (reverse a) (reverse b) same so_far none
    ∙ ap (λ l. common_prefix_len bytes_eq l (texts (reverse b))) (sym (reverse-texts a))
    ∙ ap (λ l. common_prefix_len bytes_eq (reverse (texts a)) l) (sym (reverse-texts b))

-- where the lines at a place from the end are alike, one more is
pub back_yes : (a b : List (Bor (List ℕ))) (i : ℕ) (x y : Bor (List ℕ)) → i < length a → i < length b
    → alike (get_or a (length a - 1 - i) x) (get_or b (length b - 1 - i) y) ≡ true
    → common_prefix_len alike (drop i (reverse a)) (drop i (reverse b)) ≡ 1 + common_prefix_len alike (drop (i + 1) (reverse a)) (drop (i + 1) (reverse b))
back_yes a b i x y in_a in_b same =
    common_prefix_len-drop_yes alike (reverse a) (reverse b) i x y
    (let l = length-reverse a in omega arith) (let l = length-reverse b in omega arith)
    (rw (get_or-reverse a i x in_a, get_or-reverse b i y in_b) same)

-- and where they aren't, no more is
pub back_no : (a b : List (Bor (List ℕ))) (i : ℕ) (x y : Bor (List ℕ)) → i < length a → i < length b
    → alike (get_or a (length a - 1 - i) x) (get_or b (length b - 1 - i) y) ≡ false
    → common_prefix_len alike (drop i (reverse a)) (drop i (reverse b)) ≡ 0
back_no a b i x y in_a in_b other =
    common_prefix_len-drop_no alike (reverse a) (reverse b) i x y
    (let l = length-reverse a in omega arith) (let l = length-reverse b in omega arith)
    (rw (get_or-reverse a i x in_a, get_or-reverse b i y in_b) other)

pub back_all : (a b : List (Bor (List ℕ))) (i : ℕ) → length a ≤ i → common_prefix_len alike (drop i (reverse a)) (drop i (reverse b)) ≡ 0
back_all a b i le = prefix_at_end (reverse a) (reverse b) i (let l = length-reverse a in omega arith)

pub back_all_other : (a b : List (Bor (List ℕ))) (i : ℕ) → length b ≤ i → common_prefix_len alike (drop i (reverse a)) (drop i (reverse b)) ≡ 0
back_all_other a b i le = prefix_at_other_end (reverse a) (reverse b) i (let l = length-reverse b in omega arith)
