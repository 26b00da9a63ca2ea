-- A hunk that is made of lines that are lent.
use Rattle.std.proofs.Common.{◌≡◌, ◌∙◌, ℕ, ◌+◌, ◌-◌, List, length, drop, take, ap, sym, arith}
use Rattle.std.proofs.lemmas.List.{drop-map, length-drop, length-map, take-map, take_all}
use Rattle.std.specs.Borrow.{Bor}
use Rattle.tp_hunks.specs.declared.touching.Touched.{Touched}
use Rattle.tp_hunks.specs.Hunks.{hunk_less, hunk_of, lines_up_to, same_end, same_start}
use Rattle.tp_hunks.proofs.LineLists.{texts}

-- lines up to one, as lines
up_to-texts : (xs : List (Bor (List ℕ))) (first last : ℕ) → texts (lines_up_to first last xs) ≡ lines_up_to first last (texts xs)
up_to-texts xs first last =
    sym (take-map (λ (l : Bor (List ℕ)). l.now) (last + 1 - first) (drop first xs))
    ∙ ap (take (last + 1 - first)) (sym (drop-map (λ (l : Bor (List ℕ)). l.now) first xs))

-- what is taken of a list from a place on
pub rest_is : (xs : List (Bor (List ℕ))) (n : ℕ) → take (length xs - n) (drop n xs) ≡ drop n xs
rest_is xs n = take_all (length xs - n) (drop n xs) (let l = length-drop n xs in omega arith)

pub hunk_made : (g : Touched) (xs ys gone come gone' come' : List (Bor (List ℕ))) (front back : ℕ)
    → gone ≡ lines_up_to g.old_first g.old_last xs → come ≡ lines_up_to g.new_first g.new_last ys
    → gone' ≡ drop front gone → come' ≡ drop front come
    → front ≡ same_start (texts gone) (texts come) → back ≡ same_end (texts gone') (texts come')
    → hunk_less g (length gone) (length come) front back
    ≡ hunk_of g (lines_up_to g.old_first g.old_last (texts xs)) (lines_up_to g.new_first g.new_last (texts ys))
hunk_made g xs ys gone come gone' come' front back goes comes gone_rest come_rest starts ends =
    let T = texts gone in
    let U = texts come in
    let old : length gone ≡ length T = sym (length-map gone (λ (l : Bor (List ℕ)). l.now)) in
    let new : length come ≡ length U = sym (length-map come (λ (l : Bor (List ℕ)). l.now)) in
    let old_rest : texts gone' ≡ drop (same_start T U) T =
    ap texts gone_rest ∙ (sym (drop-map (λ (l : Bor (List ℕ)). l.now) front gone) ∙ ap (λ n. drop n T) starts) in
    let new_rest : texts come' ≡ drop (same_start T U) U =
    ap texts come_rest ∙ (sym (drop-map (λ (l : Bor (List ℕ)). l.now) front come) ∙ ap (λ n. drop n U) starts) in
    let core : hunk_less g (length gone) (length come) front back ≡ hunk_of g T U =
    ap (λ n. hunk_less g n (length come) front back) old
    ∙ (ap (λ n. hunk_less g (length T) n front back) new
    ∙ (ap (λ n. hunk_less g (length T) (length U) n back) starts
    ∙ ap (λ n. hunk_less g (length T) (length U) (same_start T U) n) (ends ∙ (ap (λ l. same_end l (texts come')) old_rest ∙ ap (λ l. same_end (drop (same_start T U) T) l) new_rest)))) in
    core
    ∙ (ap (λ l. hunk_of g l U) (ap texts goes ∙ up_to-texts xs g.old_first g.old_last)
    ∙ ap (λ l. hunk_of g (lines_up_to g.old_first g.old_last (texts xs)) l) (ap texts comes ∙ up_to-texts ys g.new_first g.new_last))
