-- A document made of the changes at the places of a past: each enters after those before it.
use Rattle.tp_document.proofs.Common.{take, drop, get_or, add-one, drop-cons, ◌≡◌, ℕ, suc, ◌+◌, ◌<◌, ◌≤◌, ◌==◌, List, ◌∷◌, ◌++◌, length, false, cond, Option, Some, None, sym, ap, ◌∙◌, subst, arith, nat_tests, length-append, slice_get, Hash, ChangeParts, past, past_places, defect, or_full, most_changes, Sound, Fits-at, changes_at_places, take-append-drop, length-past, defect-from_Fits, with_change}
use Rattle.tp_history.specs.declared.error.GraphError.TheVariants.{Full}
use Rattle.tp_history.specs.Fit.{cause}
use Rattle.tp_document.proofs.ChangePlaces.{changes_at_places-append, changes_at_places-past}

-- each change of a sound list enters after those before it
mid_enters : (A : List ChangeParts) (x : ChangeParts) (B : List ChangeParts) → Sound (A ++ x ∷ B) → length (A ++ x ∷ B) ≤ most_changes → cause A x ≡ None
unfolding cause
mid_enters A x B s few =
    let none : defect A x ≡ None = defect-from_Fits A x (Fits-at A x B s) in
    let size : length (A ++ x ∷ B) ≡ length A + suc (length B) = length-append A (x ∷ B) in
    let room : (length A == most_changes) ≡ false = below (length A) (length B) (length (A ++ x ∷ B)) few size in
    ap (λ o. or_full o (length A == most_changes)) none ∙ ap (λ b. cond b (Some Full) None) room where
      below : (n m k : ℕ) → k ≤ most_changes → k ≡ n + suc m → (n == most_changes) ≡ false
      below n m k few size = grind (arith, nat_tests)

-- the change at the next place enters after those at the places before it
pub next_enters : (C : List ChangeParts) (ps : List ℕ) (i : ℕ) (x : ChangeParts) → Sound (changes_at_places C ps) → length (changes_at_places C ps) ≤ most_changes
    → i < length ps → slice_get C (get_or ps i 0) ≡ Some x → cause (changes_at_places C (take i ps)) x ≡ None
next_enters C ps i x s few lt is =
    let rest = drop (i + 1) ps in
    let split : ps ≡ take i ps ++ get_or ps i 0 ∷ rest =
    sym (take-append-drop i ps) ∙ ap (λ l. take i ps ++ l) (rw (add-one) (drop-cons ps i 0 lt)) in
    let whole : changes_at_places C ps ≡ changes_at_places C (take i ps) ++ x ∷ changes_at_places C rest =
    ap (changes_at_places C) split
    ∙ changes_at_places-append C (take i ps) (get_or ps i 0 ∷ rest)
    ∙ ap (λ (o : Option ChangeParts). changes_at_places C (take i ps) ++ with_change o (changes_at_places C rest)) is in
    mid_enters (changes_at_places C (take i ps)) x (changes_at_places C rest) (subst Sound whole s) (subst (λ l. length l ≤ most_changes) whole few)

-- the changes at places that are known to be those of a past
pub past_of_places : (D C : List ChangeParts) (ps qs : List ℕ) (H : List Hash) → D ≡ C → ps ≡ qs → qs ≡ past_places C H → changes_at_places D ps ≡ past C H
past_of_places D C ps qs H one two three = ap (λ l. changes_at_places l ps) one ∙ ap (changes_at_places C) (two ∙ three) ∙ changes_at_places-past C H

pub few_in_past : (C : List ChangeParts) (H : List Hash) → length C ≤ most_changes → length (past C H) ≤ most_changes
few_in_past C H few = let within = length-past C H in omega arith
