-- Texts that are cut at newlines.
use Rattle.std.proofs.Common.{◌≡◌, ◌∙◌, ◌⊎◌, inl, inr, ℕ, ◌+◌, ◌-◌, ◌<◌, ◌≤◌, List, [], ◌∷◌, ◌++◌, length, take, drop, Bool, true, false, cond, refl, ap, length-append, arith}
use Rattle.std.proofs.lemmas.Bool.{eqb-true}
use Rattle.std.proofs.lemmas.List.Splits.{length-slice_split}
use Rattle.std.proofs.lemmas.List.Sums.{count_by-le-length, sum_by-append, sum_by-cons}
use Rattle.std.proofs.Math.Seq.{drop-append_seam, take-append_seam}
use Rattle.std.specs.List.{onto_first}
use Rattle.tp_hunks.specs.declared.replacing.Replacement.{Replacement}
use Rattle.tp_hunks.specs.declared.replacing.Step.{Step}
use Rattle.tp_hunks.specs.Lines.{LeadsText, is_newline, lines_of_text, newline_count, new_passed, old_passed, put_chars, steps_of}

-- one for a newline
abbrev one_if : ℕ → ℕ
one_if ch = cond (is_newline ch) 1 0

pub count-append : (xs ys : List ℕ) → newline_count (xs ++ ys) ≡ newline_count xs + newline_count ys
count-append xs ys = sum_by-append one_if xs ys

count-yes : (ch : ℕ) (xs : List ℕ) → is_newline ch ≡ true → newline_count (ch ∷ xs) ≡ newline_count xs + 1
count-yes ch xs is = let e : newline_count (ch ∷ xs) ≡ one_if ch + newline_count xs = sum_by-cons one_if ch xs in let f : one_if ch ≡ 1 = ap (λ b. cond b 1 0) is in omega arith

count-no : (ch : ℕ) (xs : List ℕ) → is_newline ch ≡ false → newline_count (ch ∷ xs) ≡ newline_count xs
count-no ch xs is = let e : newline_count (ch ∷ xs) ≡ one_if ch + newline_count xs = sum_by-cons one_if ch xs in let f : one_if ch ≡ 0 = ap (λ b. cond b 1 0) is in omega arith

pub count-newline : (xs : List ℕ) → newline_count (10 ∷ xs) ≡ newline_count xs + 1
count-newline xs = count-yes 10 xs refl

-- a text has a line more than newlines
pub length-lines : (t : List ℕ) → length (lines_of_text t) ≡ newline_count t + 1
length-lines t = length-slice_split is_newline t

onto_first-append : (x : ℕ) (L M : List (List ℕ)) → 0 < length L → onto_first x (L ++ M) ≡ onto_first x L ++ M
onto_first-append x [] M some = absurd (omega arith)
onto_first-append x (l ∷ L) M some = refl

-- the lines of a text that is cut at a newline
pub lines-cut : (xs ys : List ℕ) → lines_of_text (xs ++ 10 ∷ ys) ≡ lines_of_text xs ++ lines_of_text ys
lines-cut [] ys = refl
lines-cut (x ∷ xs) ys = go (is_newline x) (lines-cut xs ys)
  where
    some : 0 < length (lines_of_text xs)
    some = let l = length-lines xs in omega arith

    go : (b : Bool) → lines_of_text (xs ++ 10 ∷ ys) ≡ lines_of_text xs ++ lines_of_text ys
        → cond b ([] ∷ lines_of_text (xs ++ 10 ∷ ys)) (onto_first x (lines_of_text (xs ++ 10 ∷ ys)))
        ≡ cond b ([] ∷ lines_of_text xs) (onto_first x (lines_of_text xs)) ++ lines_of_text ys
    go true e = ap (λ l. [] ∷ l) e
    go false e = ap (onto_first x) e ∙ onto_first-append x (lines_of_text xs) (lines_of_text ys) some

-- the text is cut at a newline
pub record IsCutAt (t P Q : List ℕ) : Type 0 where
  pub spelled : t ≡ P ++ 10 ∷ Q
  pub count : newline_count t ≡ newline_count P + 1 + newline_count Q

cut_at : (t P Q : List ℕ) → t ≡ P ++ 10 ∷ Q → IsCutAt t P Q
cut_at t P Q is = record {
  spelled = is;
  count = let e : newline_count t ≡ newline_count (P ++ 10 ∷ Q) = ap newline_count is in let f = count-append P (10 ∷ Q) in let g = count-newline Q in omega arith;
}

-- a text has no newline, or is cut at its first one
pub first_cut : (t : List ℕ) → (newline_count t ≡ 0) ⊎ ((P : List ℕ) × (Q : List ℕ) × IsCutAt t P Q × (newline_count P ≡ 0))
first_cut [] = inl refl
first_cut (x ∷ t) = go (is_newline x) refl (first_cut t)
  where
    Found : Type 0
    Found = (newline_count (x ∷ t) ≡ 0) ⊎ ((P : List ℕ) × (Q : List ℕ) × IsCutAt (x ∷ t) P Q × (newline_count P ≡ 0))

    go : (b : Bool) → is_newline x ≡ b → (newline_count t ≡ 0) ⊎ ((P : List ℕ) × (Q : List ℕ) × IsCutAt t P Q × (newline_count P ≡ 0)) → Found
    go true is found = inr ([], t, cut_at (x ∷ t) [] t (ap (λ c. c ∷ t) (eqb-true x 10 is)), refl)
    go false is (inl none) = inl (count-no x t is ∙ none)
    go false is (inr w) = inr (x ∷ w.0, w.1, cut_at (x ∷ t) (x ∷ w.0) w.1 (ap (λ l. x ∷ l) w.2.spelled), count-no x w.0 is ∙ w.3)

-- a text has no newline, or is cut at its last one
pub last_cut : (t : List ℕ) → (newline_count t ≡ 0) ⊎ ((P : List ℕ) × (Q : List ℕ) × IsCutAt t P Q × (newline_count Q ≡ 0))
last_cut [] = inl refl
last_cut (x ∷ t) = go (is_newline x) refl (last_cut t)
  where
    Found : Type 0
    Found = (newline_count (x ∷ t) ≡ 0) ⊎ ((P : List ℕ) × (Q : List ℕ) × IsCutAt (x ∷ t) P Q × (newline_count Q ≡ 0))

    go : (b : Bool) → is_newline x ≡ b → (newline_count t ≡ 0) ⊎ ((P : List ℕ) × (Q : List ℕ) × IsCutAt t P Q × (newline_count Q ≡ 0)) → Found
    go true is (inl none) = inr ([], t, cut_at (x ∷ t) [] t (ap (λ c. c ∷ t) (eqb-true x 10 is)), none)
    go false is (inl none) = inl (count-no x t is ∙ none)
    go b is (inr w) = inr (x ∷ w.0, w.1, cut_at (x ∷ t) (x ∷ w.0) w.1 (ap (λ l. x ∷ l) w.2.spelled), w.3)

-- what is taken of characters that are given in parts
pub parts_taken : (A stay gone X : List ℕ) (k d : ℕ) → A ≡ stay ++ (gone ++ X) → k ≡ length stay → d ≡ length gone
    → (take k A ≡ stay) × (take d (drop k A) ≡ gone) × (drop d (drop k A) ≡ X)
parts_taken A stay gone X k d is ks ds =
    let dropped : drop k A ≡ gone ++ X = ap (drop k) is ∙ (ap (λ n. drop n (stay ++ (gone ++ X))) ks ∙ drop-append_seam stay (gone ++ X)) in (
      ap (take k) is ∙ (ap (λ n. take n (stay ++ (gone ++ X))) ks ∙ take-append_seam stay (gone ++ X)),
      ap (take d) dropped ∙ (ap (λ n. take n (gone ++ X)) ds ∙ take-append_seam gone X),
      ap (drop d) dropped ∙ (ap (λ n. drop n (gone ++ X)) ds ∙ drop-append_seam gone X),
    )

-- the first step of the replacements
pub steps_step : (A stay gone X : List ℕ) (n : ℕ) (r : Replacement) (rs : List Replacement) → A ≡ stay ++ (gone ++ X) → r.at ≡ n + length stay → r.del ≡ length gone
    → steps_of A n (r ∷ rs)
    ≡ (record { stay = newline_count stay; gone = newline_count gone; come = newline_count (put_chars r) }) ∷ steps_of X (r.at + length (put_chars r)) rs
steps_step A stay gone X n r rs is at del =
    let taken = parts_taken A stay gone X (r.at - n) r.del is (omega arith) del in
    rw (taken.0, taken.1, taken.2) refl

-- no more newlines are passed than characters are there
pub passes : (rs : List Replacement) (A B : List ℕ) (n : ℕ) → LeadsText A B n rs
    → (old_passed (steps_of A n rs) ≤ length A) × (new_passed (steps_of A n rs) ≤ length B)
passes [] A B n leads = (omega arith, omega arith)
passes (r ∷ rs) A B n leads =
    let stay = count_by-le-length is_newline leads.0 in
    let gone = count_by-le-length is_newline leads.1 in
    let come = count_by-le-length is_newline (put_chars r) in
    let old = ap length leads.4 ∙ (length-append leads.0 (leads.1 ++ leads.2) ∙ ap (λ k. length leads.0 + k) (length-append leads.1 leads.2)) in
    let new = ap length leads.5 ∙ (length-append leads.0 (put_chars r ++ leads.3) ∙ ap (λ k. length leads.0 + k) (length-append (put_chars r) leads.3)) in
    let rest = passes rs leads.2 leads.3 (r.at + length (put_chars r)) leads.8 in
    let s : Step = record { stay = newline_count leads.0; gone = newline_count leads.1; come = newline_count (put_chars r) } in
    let ss = steps_of leads.2 (r.at + length (put_chars r)) rs in
    let is = steps_step A leads.0 leads.1 leads.2 n r rs leads.4 leads.6 leads.7 in
    let passed = ap old_passed is ∙ sum_by-cons (λ (t : Step). t.stay + t.gone) s ss in
    let passed_new = ap new_passed is ∙ sum_by-cons (λ (t : Step). t.stay + t.come) s ss in
    (omega (arith, rest.0), omega (arith, rest.1))
