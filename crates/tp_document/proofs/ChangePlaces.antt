-- Changes at places.
use Rattle.tp_document.proofs.Common.{◌≡◌, ℕ, suc, ◌+◌, ◌<◌, inl, inr, List, [], ◌∷◌, ◌++◌, length, take, get_or, true, false, ◌||◌, cond, Option, Some, None, refl, sym, ap, ◌∙◌, arith, append_assoc, slice_get, take_more, length-append, In, Hash, ChangeParts, past, past_places, changes_at_places, with_change, slice_get-get_or, In-slice_get, names, is_needed}
use Rattle.tp_history.specs.Marks.{marks, places_from}

-- ---- the changes at the places of a past are the past

at_length : (F : List ChangeParts) (c : ChangeParts) (C : List ChangeParts) → slice_get (F ++ c ∷ C) (length F) ≡ Some c
at_length [] c C = refl
at_length (x ∷ F) c C = at_length F c C

changes_from : (F C : List ChangeParts) (H : List Hash) → changes_at_places (F ++ C) (places_from (length F) (marks C H)) ≡ past C H
changes_from F [] H = refl
changes_from F (c ∷ C) H =
    let n = length F in
    let next : length (F ++ c ∷ []) ≡ n + 1 = length-append F (c ∷ []) in
    let rest : changes_at_places (F ++ c ∷ C) (places_from (n + 1) (marks C H)) ≡ past C H =
    ap (λ l. changes_at_places l (places_from (n + 1) (marks C H))) (sym (append_assoc F (c ∷ []) C))
    ∙ ap (λ k. changes_at_places ((F ++ c ∷ []) ++ C) (places_from k (marks C H))) (sym next)
    ∙ changes_from (F ++ c ∷ []) C H in
    elim (names H c || is_needed (past C H) c) as (λ b. changes_at_places (F ++ c ∷ C) (cond b (n ∷ places_from (n + 1) (marks C H)) (places_from (n + 1) (marks C H))) ≡ cond b (c ∷ past C H) (past C H)) [
      | true ↦ ap (λ o. with_change o (changes_at_places (F ++ c ∷ C) (places_from (n + 1) (marks C H)))) (at_length F c C) ∙ ap (λ l. c ∷ l) rest
      | false ↦ rest
    ]

pub changes_at_places-past : (C : List ChangeParts) (H : List Hash) → changes_at_places C (past_places C H) ≡ past C H
changes_at_places-past C H = changes_from [] C H

-- each is within the list
places_within : (n : ℕ) (C : List ChangeParts) (H : List Hash) (i : ℕ) → In i (places_from n (marks C H)) → i < n + length C
places_within n [] H i k = absurd k
places_within n (c ∷ C) H i k =
    elim (names H c || is_needed (past C H) c) as (λ b. In i (cond b (n ∷ places_from (n + 1) (marks C H)) (places_from (n + 1) (marks C H))) → i < n + suc (length C)) [
      | true ↦ λ j. elim j [ inl e ↦ omega arith | inr m ↦ let h : i < n + 1 + length C = places_within (n + 1) C H i m in omega arith ]
      | false ↦ λ j. let h : i < n + 1 + length C = places_within (n + 1) C H i j in omega arith
    ] k

pub past_places-within : (C : List ChangeParts) (H : List Hash) (i : ℕ) → In i (past_places C H) → i < length C
past_places-within C H i k = let h : i < 0 + length C = places_within 0 C H i k in omega arith

-- ---- the changes at one place more

pub changes_at_places-append : (C : List ChangeParts) (is js : List ℕ) → changes_at_places C (is ++ js) ≡ changes_at_places C is ++ changes_at_places C js
changes_at_places-append C [] js = refl
changes_at_places-append C (i ∷ is) js = ap (with_change (slice_get C i)) (changes_at_places-append C is js) ∙ before (slice_get C i) (changes_at_places C is) (changes_at_places C js) where
  before : (o : Option ChangeParts) (xs ys : List ChangeParts) → with_change o (xs ++ ys) ≡ with_change o xs ++ ys
  before None xs ys = refl
  before (Some c) xs ys = refl

pub changes_at_places-more : (C : List ChangeParts) (is : List ℕ) (k : ℕ) (c : ChangeParts) → k < length is → slice_get C (get_or is k 0) ≡ Some c → changes_at_places C (take (k + 1) is) ≡ changes_at_places C (take k is) ++ c ∷ []
changes_at_places-more C is k c lt found =
    ap (changes_at_places C) (take_more is k 0 lt)
    ∙ changes_at_places-append C (take k is) (get_or is k 0 ∷ [])
    ∙ ap (λ o. changes_at_places C (take k is) ++ with_change o []) found

pub place_at : (is : List ℕ) (k : ℕ) → k < length is → In (get_or is k 0) is
place_at is k lt = let read = slice_get-get_or is k 0 lt in In-slice_get is k (get_or is k 0) read
