-- What is printed of hunks with the lines before and after them.
use Rattle.std.proofs.Common.{◌≡◌, ◌∙◌, ℕ, ◌-◌, ◌≤◌, List, ◌++◌, length, drop, codes, ap, sym, append_assoc}
use Rattle.std.proofs.lemmas.List.{drop_all}
use Rattle.std.specs.Borrow.{Bor}
use Rattle.std.specs.List.{flat_map}
use Rattle.tp_hunks.specs.Hunks.{lines_at}
use Rattle.tp_hunks.specs.Unified.{block_text, blocks_of, changed_lines, file_lines_text, hunk_with_lines, unified_text}
use Rattle.tp_hunks.specs.declared.trimming.Hunk.{Hunk}
use Rattle.tp_hunks.specs.declared.unified.Block.{Block}
use Rattle.tp_hunks.proofs.LineLists.{texts}
use Rattle.tp_hunks.proofs.PrintLaws.{lent_lines}

-- lines that are lent, after a sign
pub lent_text : (sign : List ℕ) (at len : ℕ) (xs part : List (Bor (List ℕ))) → part ≡ lines_at at len xs
    → file_lines_text sign (texts part) ≡ file_lines_text sign (lines_at at len (texts xs))
lent_text sign at len xs part is = ap (file_lines_text sign) (ap texts is ∙ lent_lines at len xs)

-- a hunk's lines, which are lent
pub hunk_put : (text more most before : List ℕ) (old new kept gone come : List (Bor (List ℕ))) (at between : ℕ) (h : Hunk)
    → more ≡ before ++ file_lines_text (codes " ") (texts kept) → most ≡ more ++ file_lines_text (codes "-") (texts gone)
    → text ≡ most ++ file_lines_text (codes "+") (texts come)
    → kept ≡ lines_at at between old → between ≡ h.old_at - at → gone ≡ lines_at h.old_at h.old_len old → come ≡ lines_at h.new_at h.new_len new
    → text ≡ before ++ hunk_with_lines (texts old) (texts new) at h
hunk_put text more most before old new kept gone come at between h first second third keeps is goes comes =
    let A = file_lines_text (codes " ") (lines_at at (h.old_at - at) (texts old)) in
    let B = file_lines_text (codes "-") (lines_at h.old_at h.old_len (texts old)) in
    let C = file_lines_text (codes "+") (lines_at h.new_at h.new_len (texts new)) in
    let a : more ≡ before ++ A = first ∙ ap (λ l. before ++ l) (lent_text (codes " ") at between old kept keeps ∙ ap (λ n. file_lines_text (codes " ") (lines_at at n (texts old))) is) in
    let b : most ≡ (before ++ A) ++ B = second ∙ (ap (λ l. l ++ file_lines_text (codes "-") (texts gone)) a ∙ ap (λ l. (before ++ A) ++ l) (lent_text (codes "-") h.old_at h.old_len old gone goes)) in
    let c : text ≡ ((before ++ A) ++ B) ++ C = third ∙ (ap (λ l. l ++ file_lines_text (codes "+") (texts come)) b ∙ ap (λ l. ((before ++ A) ++ B) ++ l) (lent_text (codes "+") h.new_at h.new_len new come comes)) in
    c ∙ (ap (λ l. l ++ C) (append_assoc before A B) ∙ append_assoc before (A ++ B) C)

-- the lines of hunks, after which the lines that are lent come
pub hunks_put : (text done before : List ℕ) (old new part : List (Bor (List ℕ))) (context from at i : ℕ) (hs : List Hunk)
    → text ≡ done ++ file_lines_text (codes " ") (texts part) → part ≡ lines_at from context old → length hs ≤ i
    → done ++ changed_lines (texts old) (texts new) context from (drop i hs) ≡ before ++ changed_lines (texts old) (texts new) context at hs
    → text ≡ before ++ changed_lines (texts old) (texts new) context at hs
hunks_put text done before old new part context from at i hs all is end so_far =
    all ∙ (ap (λ l. done ++ l) (lent_text (codes " ") from context old part is)
    ∙ (ap (λ l. done ++ changed_lines (texts old) (texts new) context from l) (sym (drop_all i hs end)) ∙ so_far))

-- the blocks of two lists of lines that are those of the texts
pub blocks_joined : (A A' B B' : List (List ℕ)) (context : ℕ) (hs : List Hunk) (bs : List Block) → A ≡ A' → B ≡ B' → bs ≡ blocks_of context hs
    → flat_map (block_text A B context hs) bs ≡ unified_text A' B' context hs
blocks_joined A A' B B' context hs bs a b is =
    ap (λ l. flat_map (block_text l B context hs) bs) a ∙ (ap (λ l. flat_map (block_text A' l context hs) bs) b ∙ ap (flat_map (block_text A' B' context hs)) is)
