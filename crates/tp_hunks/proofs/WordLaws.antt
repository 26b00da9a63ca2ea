-- What is printed of rows.
use Rattle.std.proofs.Common.{◌≡◌, ◌∙◌, ℕ, ◌≤◌, List, [], ◌∷◌, ◌++◌, Bool, true, false, length, map, take, drop, codes, ap, sym, subst, append-nil, append_assoc}
use Rattle.std.specs.Prelude.{if◌then◌else◌}
use Rattle.std.proofs.lemmas.List.{drop-map, take-map, take_all}
use Rattle.std.specs.List.{flat_map}
use Rattle.tp_hunks.specs.Hunks.{lines_at}
use Rattle.tp_hunks.specs.Words.{MarkedText, piece_text, marked_text}
use Rattle.tp_hunks.specs.declared.words.Piece.{Piece}

-- what is seen of some pieces
marked_text_at : (at len : ℕ) (ps : List Piece) → map marked_text (lines_at at len ps) ≡ lines_at at len (map marked_text ps)
marked_text_at at len ps = sym (take-map marked_text len (drop at ps)) ∙ ap (take len) (sym (drop-map marked_text at ps))

-- all pieces of a row were put
all_put : (text before : List ℕ) (ps : List Piece) (at len i : ℕ) → text ≡ before ++ flat_map piece_text (map marked_text (take i (lines_at at len ps))) → length (lines_at at len ps) ≤ i
    → text ≡ before ++ flat_map piece_text (lines_at at len (map marked_text ps))
all_put text before ps at len i put end = put ∙ ap (λ (l : List MarkedText). before ++ flat_map piece_text l) (ap (map marked_text) (take_all i (lines_at at len ps) end) ∙ marked_text_at at len ps)

-- the row ends in a newline
pub ended_put : (text before : List ℕ) (ps : List Piece) (at len i : ℕ) (is_ended : Bool) → is_ended ≡ true
    → text ≡ before ++ flat_map piece_text (map marked_text (take i (lines_at at len ps))) → length (lines_at at len ps) ≤ i
    → text ≡ before ++ (flat_map piece_text (lines_at at len (map marked_text ps)) ++ (if is_ended then [] else 10 ∷ []))
ended_put text before ps at len i is_ended is put end =
    let all = flat_map piece_text (lines_at at len (map marked_text ps)) in
    subst (λ (b : Bool). text ≡ before ++ (all ++ (if b then [] else 10 ∷ []))) (sym is) (all_put text before ps at len i put end ∙ ap (λ l. before ++ l) (sym (append-nil all)))

-- or it gets one
pub end_put : (text more before : List ℕ) (ps : List Piece) (at len i : ℕ) (is_ended : Bool) → is_ended ≡ false
    → text ≡ before ++ flat_map piece_text (map marked_text (take i (lines_at at len ps))) → length (lines_at at len ps) ≤ i → more ≡ text ++ codes "\n"
    → more ≡ before ++ (flat_map piece_text (lines_at at len (map marked_text ps)) ++ (if is_ended then [] else 10 ∷ []))
end_put text more before ps at len i is_ended is put end last =
    let all = flat_map piece_text (lines_at at len (map marked_text ps)) in
    subst (λ (b : Bool). more ≡ before ++ (all ++ (if b then [] else 10 ∷ []))) (sym is)
    (last ∙ (ap (λ l. l ++ 10 ∷ []) (all_put text before ps at len i put end) ∙ append_assoc before all (10 ∷ [])))
