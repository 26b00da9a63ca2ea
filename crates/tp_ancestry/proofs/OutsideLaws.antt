-- Laws of what is marked as outside a past.
use Rattle.tp_ancestry.proofs.Common.{get_or_past, ◌≡◌, ◌∙◌, ℕ, ◌<◌, List, [], ◌∷◌, length, true, false, map, not, get_or, refl, sym, ap, inl, inr, arith, get_or-map, length-map, In, never, not_true, or_left, or_right, Hash, ChangeParts, hash_of, names, has, marks, bits, cases_lt, list_any, OutsideMarks, marked_of, first_place_of, AreOutsideMarks, marks_since}
use Rattle.tp_ancestry.specs.declared.outside.OutsideMarks.TheVariants.{Beyond, Named}
use Rattle.tp_ancestry.proofs.VectorLaws.{length-bits, prefix-marked}
use Rattle.tp_history.proofs.HeadsLaws.{among-In}
use Rattle.tp_history.proofs.MarksLaws.{length-marks, length-marked_more, marked_more-none}
use Rattle.tp_history.proofs.NamedLaws.{In-has}

has_any : (C : List ChangeParts) (K : List Hash) (h : Hash) → In h K → has C h ≡ true → list_any (λ h. has C h) K ≡ true
has_any C [] h i e = absurd i
has_any C (g ∷ K) h (inl s) e = or_left (has C g) (list_any (λ h. has C h) K) (ap (has C) (sym s) ∙ e)
has_any C (g ∷ K) h (inr i) e = or_right (has C g) (list_any (λ h. has C h) K) (has_any C K h i e)

-- where no change has one of the hashes, these mark nothing more
pub nothing_more : (C : List ChangeParts) (H K : List Hash) → list_any (λ h. has C h) K ≡ false → map not (marks C H) ≡ marks_since C H K
nothing_more C H K none =
    sym (marked_more-none K C (map not (marks C H)) (length-map (marks C H) not ∙ length-marks C H)
    (λ c i. not_true (names K c) (λ t. never (has_any C K (hash_of c) (among-In K (hash_of c) t) (In-has C c (hash_of c) i refl)) none)))

pub length-marks_since : (C : List ChangeParts) (H K : List Hash) → length (marks_since C H K) ≡ length C
length-marks_since C H K = length-marked_more K C (map not (marks C H)) (length-map (marks C H) not ∙ length-marks C H)

pub length-marked : (t : OutsideMarks) (C : List ChangeParts) → AreOutsideMarks t C → length (marked_of t C) ≡ length C
length-marked (Beyond past_set) C h = length-map (bits past_set C) not ∙ length-bits past_set C h
length-marked (Named v) C h = h

-- none is marked before the first place
pub none_before : (t : OutsideMarks) (C : List ChangeParts) (k : ℕ) → AreOutsideMarks t C → k < first_place_of t → get_or (marked_of t C) k false ≡ false
none_before (Beyond past_set) C k h lt =
    let long : length (bits past_set C) ≡ length C = length-bits past_set C h in
    elim (cases_lt k (length C)) [
      | inl small ↦ get_or-map not (bits past_set C) k false false (omega (arith, small, long)) ∙ ap not (prefix-marked past_set C k small lt)
      | inr past ↦ get_or_past (map not (bits past_set C)) k false (let turned = length-map (bits past_set C) not in omega (arith, past, long, turned))
    ]
none_before (Named v) C k h lt = absurd (omega (arith, lt))
