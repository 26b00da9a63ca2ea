-- Lines of a text as files have them.
use Rattle.std.proofs.Common.{◌≡◌, ◌∙◌, ℕ, ◌+◌, ◌-◌, ◌<◌, List, [], ◌∷◌, ◌++◌, length, take, drop, Bool, true, false, cond, refl, ap, sym, one-add, arith}
use Rattle.std.proofs.lemmas.Bool.{eqb-true}
use Rattle.std.proofs.lemmas.List.{length-drop, take_all}
use Rattle.std.specs.List.{onto_first}
use Rattle.tp_hunks.specs.Lines.{file_lines, is_newline, line_len, lines_of_text}
use Rattle.tp_hunks.proofs.Splitting.{length-lines}

-- the first line of a text, and the others
pub first_line : (t : List ℕ) → 0 < length t → file_lines t ≡ take (line_len t) t ∷ file_lines (drop (line_len t) t)
first_line [] some = absurd (omega arith)
first_line (ch ∷ []) some = go (is_newline ch)
  where
    go : (b : Bool) → cond b ((ch ∷ []) ∷ []) ((ch ∷ []) ∷ []) ≡ take (cond b 1 1) (ch ∷ []) ∷ file_lines (drop (cond b 1 1) (ch ∷ []))
    go true = refl
    go false = refl
first_line (ch ∷ d ∷ t) some = go (is_newline ch) (first_line (d ∷ t) (omega arith))
  where
    go : (b : Bool) → file_lines (d ∷ t) ≡ take (line_len (d ∷ t)) (d ∷ t) ∷ file_lines (drop (line_len (d ∷ t)) (d ∷ t))
        → cond b ((ch ∷ []) ∷ file_lines (d ∷ t)) (onto_first ch (file_lines (d ∷ t)))
        ≡ take (cond b 1 (1 + line_len (d ∷ t))) (ch ∷ d ∷ t) ∷ file_lines (drop (cond b 1 (1 + line_len (d ∷ t))) (ch ∷ d ∷ t))
    go true rest = refl
    go false rest = rw (one-add (line_len (d ∷ t))) (ap (onto_first ch) rest)

-- lines that a newline parts, each with it, except the last, which is left out if it is empty
abbrev pub ended : List (List ℕ) → List (List ℕ)
ended [] = []
ended ([] ∷ []) = []
ended ((ch ∷ l) ∷ []) = (ch ∷ l) ∷ []
ended (l ∷ m ∷ ls) = (l ++ 10 ∷ []) ∷ ended (m ∷ ls)

ended-first : (ch : ℕ) (L : List (List ℕ)) → 0 < length L → onto_first ch (ended L) ≡ ended (onto_first ch L)
ended-first ch [] some = absurd (omega arith)
ended-first ch ([] ∷ []) some = refl
ended-first ch ((c ∷ l) ∷ []) some = refl
ended-first ch (l ∷ m ∷ ls) some = refl

ended-newline : (L : List (List ℕ)) → 0 < length L → ended ([] ∷ L) ≡ (10 ∷ []) ∷ ended L
ended-newline [] some = absurd (omega arith)
ended-newline (l ∷ ls) some = refl

-- a file's lines are those that newlines part
pub lines_ended : (t : List ℕ) → file_lines t ≡ ended (lines_of_text t)
lines_ended [] = refl
lines_ended (ch ∷ t) = go (is_newline ch) refl (lines_ended t)
  where
    some : 0 < length (lines_of_text t)
    some = let l = length-lines t in omega arith

    go : (b : Bool) → is_newline ch ≡ b → file_lines t ≡ ended (lines_of_text t)
        → cond b ((ch ∷ []) ∷ file_lines t) (onto_first ch (file_lines t)) ≡ ended (cond b ([] ∷ lines_of_text t) (onto_first ch (lines_of_text t)))
    go true is rest =
        ap (λ c. (c ∷ []) ∷ file_lines t) (eqb-true ch 10 is) ∙ (ap (λ l. (10 ∷ []) ∷ l) rest ∙ sym (ended-newline (lines_of_text t) some))
    go false is rest = ap (onto_first ch) rest ∙ ended-first ch (lines_of_text t) some

pub first_line_at : (t : List ℕ) (n : ℕ) → 0 < length t → n ≡ line_len t → file_lines t ≡ take n t ∷ file_lines (take (length t - n) (drop n t))
first_line_at t n some is =
    first_line t some
    ∙ (ap (λ k. take k t ∷ file_lines (drop k t)) (sym is) ∙ ap (λ l. take n t ∷ file_lines l) (sym (take_all (length t - n) (drop n t) (let l = length-drop n t in omega arith))))
