-- What is printed of hunks.
use Rattle.std.proofs.Common.{◌≡◌, ◌∙◌, ℕ, List, ◌++◌, take, drop, codes, ap, sym}
use Rattle.std.proofs.lemmas.List.{drop-map, take-map}
use Rattle.std.specs.Borrow.{Bor}
use Rattle.std.specs.List.{flat_map}
use Rattle.tp_hunks.specs.Hunks.{lines_at}
use Rattle.tp_hunks.specs.Printing.{hunk_lines, places_line, signed_line}
use Rattle.tp_hunks.specs.declared.trimming.Hunk.{Hunk}
use Rattle.tp_hunks.proofs.LineLists.{texts}

-- the lines of a hunk, which are lent
pub lent_lines : (at len : ℕ) (xs : List (Bor (List ℕ))) → texts (lines_at at len xs) ≡ lines_at at len (texts xs)
lent_lines at len xs = sym (take-map (λ (l : Bor (List ℕ)). l.now) len (drop at xs)) ∙ ap (take len) (sym (drop-map (λ (l : Bor (List ℕ)). l.now) at xs))

pub hunk_joined : (text before first : List ℕ) (old new gone come : List (Bor (List ℕ))) (h : Hunk)
    → text ≡ before ++ flat_map (signed_line (codes "+")) (texts come) → before ≡ first ++ flat_map (signed_line (codes "-")) (texts gone) → first ≡ places_line h
    → gone ≡ lines_at h.old_at h.old_len old → come ≡ lines_at h.new_at h.new_len new → text ≡ hunk_lines (texts old) (texts new) h
hunk_joined text before first old new gone come h all most places goes comes =
    let old_lines : texts gone ≡ lines_at h.old_at h.old_len (texts old) = ap texts goes ∙ lent_lines h.old_at h.old_len old in
    let new_lines : texts come ≡ lines_at h.new_at h.new_len (texts new) = ap texts comes ∙ lent_lines h.new_at h.new_len new in
    all
    ∙ (ap (λ l. l ++ flat_map (signed_line (codes "+")) (texts come)) (most ∙ ap (λ l. l ++ flat_map (signed_line (codes "-")) (texts gone)) places)
    ∙ (ap (λ l. (places_line h ++ flat_map (signed_line (codes "-")) l) ++ flat_map (signed_line (codes "+")) (texts come)) old_lines
    ∙ ap (λ l. (places_line h ++ flat_map (signed_line (codes "-")) (lines_at h.old_at h.old_len (texts old))) ++ flat_map (signed_line (codes "+")) l) new_lines))

-- the hunks of two lists of lines that are those of the texts
pub hunks_joined : (A A' B B' : List (List ℕ)) (hs hs' : List Hunk) → A ≡ A' → B ≡ B' → hs ≡ hs'
    → flat_map (hunk_lines A B) hs ≡ flat_map (hunk_lines A' B') hs'
hunks_joined A A' B B' hs hs' a b h =
    ap (λ l. flat_map (hunk_lines l B) hs) a ∙ (ap (λ l. flat_map (hunk_lines A' l) hs) b ∙ ap (flat_map (hunk_lines A' B')) h)
