-- Splices one after another.
use Rattle.std.proofs.Common.{◌≡◌, ℕ, ◌+◌, ◌-◌, ◌<◌, List, [], ◌∷◌, ◌++◌, length, get_or, sym, ap, ◌∙◌, subst, arith, take, drop, true}
use Rattle.std.proofs.lemmas.List.{drop_more, take_more}
use Rattle.std.specs.Str.{all_scalars}
use Rattle.tp_edit.specs.declared.splice.Splice.{Splice}
use Rattle.tp_edit.specs.Splices.{inserted_chars, count_of_splice, total_count, IsInRange, AllInRange, AllScalars}

-- the splices from the place i on: the one there, and the ones after it
pub AllInRange-next : (ss : List Splice) (i : ℕ) (d : Splice) (len : ℕ) → i < length ss → AllInRange len (drop i ss) → IsInRange len (get_or ss i d) × AllInRange (len - (get_or ss i d).del + length (inserted_chars (get_or ss i d))) (drop (i + 1) ss)
AllInRange-next ss i d len lt h = subst (AllInRange len) (drop_more ss i d lt) h

pub AllInRange-step : (ss : List Splice) (i : ℕ) (d : Splice) (len : ℕ) → i < length ss → IsInRange len (get_or ss i d) → AllInRange (len - (get_or ss i d).del + length (inserted_chars (get_or ss i d))) (drop (i + 1) ss) → AllInRange len (drop i ss)
AllInRange-step ss i d len lt here ahead = subst (AllInRange len) (sym (drop_more ss i d lt)) (here, ahead)

total_count-push : (ss : List Splice) (s : Splice) → total_count (ss ++ s ∷ []) ≡ total_count ss + count_of_splice s
total_count-push [] s = omega arith
total_count-push (k ∷ ss) s = let rest = total_count-push ss s in omega (arith, rest)

pub total_count-more : (ss : List Splice) (i : ℕ) (d : Splice) → i < length ss → total_count (take (i + 1) ss) ≡ total_count (take i ss) + count_of_splice (get_or ss i d)
total_count-more ss i d lt = ap total_count (take_more ss i d lt) ∙ total_count-push (take i ss) (get_or ss i d)

AllScalars-push : (ss : List Splice) (s : Splice) → AllScalars ss → all_scalars (inserted_chars s) ≡ true → AllScalars (ss ++ s ∷ [])
AllScalars-push [] s h k = (k, tt)
AllScalars-push (x ∷ ss) s h k = (h.0, AllScalars-push ss s h.1 k)

pub AllScalars-more : (ss : List Splice) (i : ℕ) (d : Splice) → i < length ss → AllScalars (take i ss) → all_scalars (inserted_chars (get_or ss i d)) ≡ true → AllScalars (take (i + 1) ss)
AllScalars-more ss i d lt h k = subst AllScalars (sym (take_more ss i d lt)) (AllScalars-push (take i ss) (get_or ss i d) h k)
