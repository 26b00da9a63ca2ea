-- Laws on lists: beginnings, and the changes of one seat.
use Rattle.tp_served.proofs.Common.{◌≡◌, ◌≢◌, ◌⊎◌, inl, inr, ⊎_elim, ℕ, eqb, eq-eqb, ne_eqb, cond, List, [], ◌∷◌, ◌++◌, length, drop, get_or, Bool, true, false, refl, sym, ap, ◌∙◌, append_assoc, append-nil, In, ChangeParts, IsPrefixOf, changes_of, entered_by, each_with_number}

-- ---- beginnings

pub begins_same : (C : List ChangeParts) → IsPrefixOf C C
begins_same C = ([], sym (append-nil C))

pub begins_more : (C D new : List ChangeParts) → IsPrefixOf C D → IsPrefixOf C (D ++ new)
begins_more C D new b = (b.0 ++ new, ap (λ l. l ++ new) b.1 ∙ append_assoc C b.0 new)

-- of two beginnings of one list, one begins the other
either_begins : (C D c d : List ChangeParts) → C ++ c ≡ D ++ d → IsPrefixOf C D ⊎ IsPrefixOf D C
either_begins [] D c d e = inl (D, refl)
either_begins (x ∷ C) [] c d e = inr (x ∷ C, refl)
either_begins (x ∷ C) (y ∷ D) c d e =
    let head : x ≡ y = ap (λ l. get_or l 0 x) e in
    ⊎_elim (λ b. inl (b.0, λ k. sym head k ∷ b.1 k)) (λ b. inr (b.0, λ k. head k ∷ b.1 k)) (either_begins C D c d (ap (drop 1) e))

pub both_begin : (C D E : List ChangeParts) → IsPrefixOf C E → IsPrefixOf D E → IsPrefixOf C D ⊎ IsPrefixOf D C
both_begin C D E b d = either_begins C D b.0 d.0 (sym b.1 ∙ d.1)

-- what is after a beginning
pub drop_begin : (C new : List ChangeParts) → drop (length C) (C ++ new) ≡ new
drop_begin [] new = refl
drop_begin (x ∷ C) new = drop_begin C new

-- ---- the changes of one seat

pub in_numbered : (x : ℕ × ChangeParts) (n : ℕ) (C : List ChangeParts) → In x (each_with_number n C) → x.0 ≡ n
in_numbered x n [] i = absurd i
in_numbered x n (c ∷ C) (inl e) = ap (λ (y : ℕ × ChangeParts). y.0) e
in_numbered x n (c ∷ C) (inr i) = in_numbered x n C i

numbered_are : (n : ℕ) (C : List ChangeParts) → changes_of (each_with_number n C) ≡ C
numbered_are n [] = refl
numbered_are n (c ∷ C) = ap (λ l. c ∷ l) (numbered_are n C)

-- what a list is that ends with changes that the seat n entered
pub changes_more : (E : List (ℕ × ChangeParts)) (n : ℕ) (C : List ChangeParts) → changes_of (E ++ each_with_number n C) ≡ changes_of E ++ C
changes_more [] n C = numbered_are n C
changes_more (x ∷ E) n C = ap (λ l. x.1 ∷ l) (changes_more E n C)

by_test : (b : Bool) (c : ChangeParts) (xs ys zs : List ChangeParts) → zs ≡ xs ++ ys → cond b (c ∷ zs) zs ≡ cond b (c ∷ xs) xs ++ ys
by_test true c xs ys zs e = ap (λ l. c ∷ l) e
by_test false c xs ys zs e = e

pub entered-append : (n : ℕ) (E F : List (ℕ × ChangeParts)) → entered_by n (E ++ F) ≡ entered_by n E ++ entered_by n F
entered-append n [] F = refl
entered-append n (x ∷ E) F = by_test (eqb x.0 n) x.1 (entered_by n E) (entered_by n F) (entered_by n (E ++ F)) (entered-append n E F)

-- all changes of the seat itself
pub entered_all : (n : ℕ) (C : List ChangeParts) → entered_by n (each_with_number n C) ≡ C
entered_all n [] = refl
entered_all n (c ∷ C) = ap (λ b. cond b (c ∷ entered_by n (each_with_number n C)) (entered_by n (each_with_number n C))) (eq-eqb n n refl) ∙ ap (λ l. c ∷ l) (entered_all n C)

-- none of another seat's
pub entered_none : (n k : ℕ) (C : List ChangeParts) → k ≢ n → entered_by n (each_with_number k C) ≡ []
entered_none n k [] other = refl
entered_none n k (c ∷ C) other = ap (λ b. cond b (c ∷ entered_by n (each_with_number k C)) (entered_by n (each_with_number k C))) (ne_eqb k n other) ∙ entered_none n k C other
