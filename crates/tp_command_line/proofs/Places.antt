-- The place of the first word that ends the search for `--explain`.
use Rattle.std.proofs.Common.{◌≡◌, ◌<◌, ◌≤◌, ◌+◌, ◌∙◌, ◌⊎◌, ⊎_elim, ℕ, suc, zero, Bool, true, false, List, [], ◌++◌, length, take, drop, get_or, arith, ap, inl, inr, refl, subst, sym}
use Rattle.std.proofs.lemmas.List.{drop-map, get_or-map, length-map, map-append, take-map}
use Rattle.std.proofs.lemmas.List.Sums.{position_or_len_is}
use Rattle.std.specs.Borrow.{Bor}
use Rattle.std.specs.Prelude.{if◌then◌else◌, remove}
use Rattle.clap.specs.Words.{Text}
use Rattle.tp_command_line.specs.Asking.{asks_to_explain, ends_search as search_end, explain_place, is_explain, without_explain}
use Rattle.tp_command_line.proofs.HashTexts.{texts_of}

below_next : (k n : ℕ) → k < suc n → (k < n) ⊎ (k ≡ n)
below_next zero zero lt = inr refl
below_next zero (suc n) lt = inl (omega arith)
below_next (suc k) zero lt = absurd (omega (arith, lt))
below_next (suc k) (suc n) lt = elim (below_next k n (omega arith)) as (λ _. (suc k < suc n) ⊎ (suc k ≡ suc n)) [ inl h ↦ inl (omega (arith, h)) | inr e ↦ inr (ap suc e) ]

-- no word up to the next place ends it
pub none_so_far : (ws : List (Bor Text)) (n : ℕ) (d : Bor Text) → n < length ws
    → ((k : ℕ) → k < n → search_end (get_or (texts_of ws) k []) ≡ false)
    → search_end (get_or ws n d).now ≡ false
    → (k : ℕ) → k < n + 1 → search_end (get_or (texts_of ws) k []) ≡ false
none_so_far ws n d lt before here k below =
    ⊎_elim
    (λ less. before k less)
    (λ same. subst (λ (i : ℕ). search_end (get_or (texts_of ws) i []) ≡ false) (sym same) (ap search_end (get_or-map (λ (t : Bor Text). t.now) ws n d [] lt) ∙ here))
    (below_next k n (omega (arith, below)))

-- the place where it ends
pub ends_there : (ws : List (Bor Text)) (n : ℕ) (d : Bor Text) → n < length ws
    → ((k : ℕ) → k < n → search_end (get_or (texts_of ws) k []) ≡ false)
    → search_end (get_or ws n d).now ≡ true
    → n ≡ explain_place (texts_of ws)
ends_there ws n d lt before here =
    let long : length (texts_of ws) ≡ length ws = length-map ws (λ (t : Bor Text). t.now) in
    let at_n : search_end (get_or (texts_of ws) n []) ≡ true = ap search_end (get_or-map (λ (t : Bor Text). t.now) ws n d [] lt) ∙ here in
    sym (position_or_len_is search_end (texts_of ws) n [] (omega arith) before (λ _. at_n))

-- no word ends it
pub ends_nowhere : (ws : List (Bor Text)) (n : ℕ) → n ≤ length ws → length ws ≤ n
    → ((k : ℕ) → k < n → search_end (get_or (texts_of ws) k []) ≡ false)
    → n ≡ explain_place (texts_of ws)
ends_nowhere ws n le past before =
    let long : length (texts_of ws) ≡ length ws = length-map ws (λ (t : Bor Text). t.now) in
    sym (position_or_len_is search_end (texts_of ws) n [] (omega arith) before (λ more. absurd (omega (arith, more, past, long))))

-- texts without one of them
pub texts_of-remove : (ws : List (Bor Text)) (i : ℕ) → texts_of (remove ws i) ≡ remove (texts_of ws) i
texts_of-remove ws i =
    map-append (λ (t : Bor Text). t.now) (take i ws) (drop (suc i) ws)
    ∙ ap (λ (l : List Text). l ++ texts_of (drop (suc i) ws)) (sym (take-map (λ (t : Bor Text). t.now) i ws))
    ∙ ap (λ (l : List Text). take i (texts_of ws) ++ l) (sym (drop-map (λ (t : Bor Text). t.now) (suc i) ws))

-- the texts without the one that asks for it
pub taken_out : (ws new : List (Bor Text)) (i : ℕ) (d : Bor Text) → i < length ws → i ≡ explain_place (texts_of ws)
    → is_explain (get_or ws i d).now ≡ true → new ≡ remove ws i → texts_of new ≡ without_explain (texts_of ws)
taken_out ws new i d lt place is removed =
    let asks : asks_to_explain (texts_of ws) ≡ true = ap (λ (n : ℕ). is_explain (get_or (texts_of ws) n [])) (sym place) ∙ ap is_explain (get_or-map (λ (t : Bor Text). t.now) ws i d [] lt) ∙ is in
    let chosen : without_explain (texts_of ws) ≡ remove (texts_of ws) (explain_place (texts_of ws)) =
    ap (λ (b : Bool). if b then remove (texts_of ws) (explain_place (texts_of ws)) else texts_of ws) asks in
    ap texts_of removed ∙ texts_of-remove ws i ∙ ap (remove (texts_of ws)) place ∙ sym chosen
