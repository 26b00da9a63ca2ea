-- Changes that enter one after another: what enters out of pieces is changes that fit, and such changes enter again.
use Rattle.std.proofs.Common.{◌+◌, ◌≡◌, ℕ, ◌≤◌, List, [], ◌∷◌, ◌++◌, length, map, Option, Some, None, Result, Ok, Err, refl, sym, ap, subst, ◌∙◌, append_assoc, append-nil, arith}
use Rattle.std.specs.Int.{w32, to_be_bytes}
use Rattle.std.specs.List.{flat_map, AllByRecursion}
use Rattle.std.proofs.lemmas.List.Concat.{flat_map-cons}
use Rattle.std.proofs.lemmas.List.{length-append}
use Rattle.tp_codec.proofs.Fields.{AreBytes}
use Rattle.tp_layout.specs.declared.error.ChangeError.{ChangeError}
use Rattle.tp_layout.specs.declared.parts.ChangeParts.{ChangeParts}
use Rattle.tp_layout.specs.Limits.{IsChange}
use Rattle.tp_layout.specs.Reading.{change_at}
use Rattle.tp_layout.specs.Spelling.{spelling, framed_change}
use Rattle.tp_layout.proofs.WholeChange.{change_takes, change_again}
use Rattle.tp_history.specs.declared.error.GraphError.{GraphError}
use Rattle.tp_history.specs.Fit.{cause, most_changes}
use Rattle.tp_history.specs.Sound.{SoundAfter}
use Rattle.tp_history.proofs.CauseLaws.{enters, room_for_one, cause-from_Fits}
use Rattle.tp_history.proofs.SoundLaws.{Fits-from_defect}
use Rattle.tp_store.specs.declared.error.StoreError.{StoreError}
use Rattle.tp_store.specs.Loading.{and_with, or_damaged_at, push_or_refuse, with_piece, offset_after, with_pieces}

pub and_with_ok : {X Y : Type 0} (r : Result X StoreError) (next : X → Result Y StoreError) (y : Y) → and_with r next ≡ Ok y → (x : X) × (r ≡ Ok x) × (next x ≡ Ok y)
and_with_ok (Ok x) next y e = (x, refl, e)
and_with_ok (Err d) next y e = absurd cc

pushed_ok : (C : List ChangeParts) (c : ChangeParts) (o : Option GraphError) (D : List ChangeParts) → push_or_refuse C c o ≡ Ok D → (o ≡ None) × (D ≡ C ++ c ∷ [])
pushed_ok C c None D e = (refl, let same : C ++ c ∷ [] ≡ D = cc in sym same)
pushed_ok C c (Some x) D e = absurd cc

grown_ok : (at : ℕ) (C : List ChangeParts) (r : Result ChangeParts ChangeError) (D : List ChangeParts) → and_with (or_damaged_at at r) (λ c. push_or_refuse C c (cause C c)) ≡ Ok D
    → (c : ChangeParts) × (r ≡ Ok c) × (cause C c ≡ None) × (D ≡ C ++ c ∷ [])
grown_ok at C (Ok c) D e = let p = pushed_ok C c (cause C c) D e in (c, refl, p.0, p.1)
grown_ok at C (Err x) D e = absurd cc

-- The pieces are changes N that fit after C one by one, and D is C with them.
pub record Enters (C : List ChangeParts) (ps : List (List ℕ)) (D N : List ChangeParts) : Type 0 where
  pub grown : D ≡ C ++ N
  pub pieces : ps ≡ map spelling N
  pub limits : AllByRecursion IsChange N
  pub sound : SoundAfter C N
  pub few : length D ≤ most_changes

enters_first : (C : List ChangeParts) (p : List ℕ) (ps : List (List ℕ)) (c : ChangeParts) (D N : List ChangeParts) → p ≡ spelling c → IsChange c → cause C c ≡ None
    → Enters (C ++ c ∷ []) ps D N → Enters C (p ∷ ps) D (c ∷ N)
enters_first C p ps c D N same is none rest = record {
  grown = rest.grown ∙ append_assoc C (c ∷ []) N;
  pieces = ap (λ (q : List ℕ). q ∷ ps) same ∙ ap (λ (qs : List (List ℕ)). spelling c ∷ qs) rest.pieces;
  limits = (is, rest.limits);
  sound = ((enters C c none).0, rest.sound);
  few = rest.few;
}

one_more : (C : List ChangeParts) (c : ChangeParts) → cause C c ≡ None → length C ≤ most_changes → length (C ++ c ∷ []) ≤ most_changes
one_more C c none few =
    let room = room_for_one C c none few in
    let size = length-append C (c ∷ []) in
    omega arith

same_list : (C D : List ChangeParts) → (let r : Result (List ChangeParts) StoreError = Ok C in r) ≡ Ok D → C ≡ D
same_list C D e = cc

pub entered_takes : (at : ℕ) (C : List ChangeParts) (ps : List (List ℕ)) (D : List ChangeParts) → AllByRecursion AreBytes ps → length C ≤ most_changes → with_pieces at C ps ≡ Ok D
    → (N : List ChangeParts) × Enters C ps D N
unfolding with_pieces
entered_takes at C [] D fits few e =
    let same : C ≡ D = same_list C D e in
    ([], record { grown = sym same ∙ sym (append-nil C); pieces = refl; limits = tt; sound = tt; few = subst (λ (l : List ChangeParts). length l ≤ most_changes) same few })
entered_takes at C (p ∷ ps) D fits few e =
    let a = and_with_ok (with_piece at C p) (λ (E : List ChangeParts). with_pieces (offset_after at p) E ps) D e in
    let g = grown_ok at C (change_at p) a.0 a.1 in
    let t = change_takes p g.0 fits.0 g.1 in
    let rest = entered_takes (offset_after at p) (C ++ g.0 ∷ []) ps D fits.1 (one_more C g.0 g.2 few) (ap (λ (E : List ChangeParts). with_pieces (offset_after at p) E ps) (sym g.3) ∙ a.2) in
    (g.0 ∷ rest.0, enters_first C p ps g.0 D rest.0 t.1 t.0 g.2 rest.1)

grown_again : (at : ℕ) (C : List ChangeParts) (c : ChangeParts) → IsChange c → cause C c ≡ None → with_piece at C (spelling c) ≡ Ok (C ++ c ∷ [])
grown_again at C c is none =
    ap (λ (r : Result ChangeParts ChangeError). and_with (or_damaged_at at r) (λ d. push_or_refuse C d (cause C d))) (change_again c is) ∙ ap (push_or_refuse C c) none

pub entered_again : (at : ℕ) (C N : List ChangeParts) → AllByRecursion IsChange N → SoundAfter C N → length (C ++ N) ≤ most_changes → with_pieces at C (map spelling N) ≡ Ok (C ++ N)
unfolding with_pieces
entered_again at C [] is sound few = ap (λ (l : List ChangeParts). let r : Result (List ChangeParts) StoreError = Ok l in r) (sym (append-nil C))
entered_again at C (c ∷ N) is sound few =
    let size = length-append C (c ∷ N) in
    let none : cause C c ≡ None = cause-from_Fits C c (Fits-from_defect C c sound.0) (omega arith) in
    let joined : (C ++ c ∷ []) ++ N ≡ C ++ c ∷ N = append_assoc C (c ∷ []) N in
    ap (λ (r : Result (List ChangeParts) StoreError). and_with r (λ D. with_pieces (offset_after at (spelling c)) D (map spelling N))) (grown_again at C c is.0 none)
    ∙ entered_again (offset_after at (spelling c)) (C ++ c ∷ []) N is.1 sound.1 (subst (λ (l : List ChangeParts). length l ≤ most_changes) (sym joined) few)
    ∙ ap (λ (l : List ChangeParts). let r : Result (List ChangeParts) StoreError = Ok l in r) joined

length-framed_change : (c : ChangeParts) (rest : List ℕ) → length (framed_change c ++ rest) ≡ 4 + length (spelling c) + length rest
length-framed_change c rest =
    let whole = length-append (framed_change c) rest in
    let one = length-append (to_be_bytes w32 (length (spelling c))) (spelling c) in
    omega arith

-- where the length is after one more change
further : (at : ℕ) (c : ChangeParts) (C : List ChangeParts) → offset_after at (spelling c) + length (flat_map framed_change C) ≡ at + length (flat_map framed_change (c ∷ C))
further at c C =
    let first : length (flat_map framed_change (c ∷ C)) ≡ length (framed_change c ++ flat_map framed_change C) = ap length (flat_map-cons framed_change c C) in
    let size = length-framed_change c (flat_map framed_change C) in
    omega arith

-- what can't enter after changes that enter is the answer
pub entered_stops : (at : ℕ) (B C : List ChangeParts) (p : List ℕ) (more : List (List ℕ)) (e : StoreError) → AllByRecursion IsChange C → SoundAfter B C → length (B ++ C) ≤ most_changes
    → with_piece (at + length (flat_map framed_change C)) (B ++ C) p ≡ Err e → with_pieces at B (map spelling C ++ p ∷ more) ≡ Err e
unfolding with_pieces
entered_stops at B [] p more e is sound few bad =
    let here : with_piece at B p ≡ Err e = ap (λ (n : ℕ). with_piece n B p) (let k : at ≡ at + 0 = omega arith in k) ∙ ap (λ (l : List ChangeParts). with_piece (at + 0) l p) (sym (append-nil B)) ∙ bad in
    ap (λ (r : Result (List ChangeParts) StoreError). and_with r (λ D. with_pieces (offset_after at p) D more)) here
entered_stops at B (c ∷ C) p more e is sound few bad =
    let size = length-append B (c ∷ C) in
    let none : cause B c ≡ None = cause-from_Fits B c (Fits-from_defect B c sound.0) (omega arith) in
    let joined : (B ++ c ∷ []) ++ C ≡ B ++ c ∷ C = append_assoc B (c ∷ []) C in
    let there : with_piece (offset_after at (spelling c) + length (flat_map framed_change C)) ((B ++ c ∷ []) ++ C) p ≡ Err e =
    ap (λ (n : ℕ). with_piece n ((B ++ c ∷ []) ++ C) p) (further at c C) ∙ ap (λ (l : List ChangeParts). with_piece (at + length (flat_map framed_change (c ∷ C))) l p) joined ∙ bad in
    ap (λ (r : Result (List ChangeParts) StoreError). and_with r (λ D. with_pieces (offset_after at (spelling c)) D (map spelling C ++ p ∷ more))) (grown_again at B c is.0 none)
    ∙ entered_stops (offset_after at (spelling c)) (B ++ c ∷ []) C p more e is.1 sound.1 (subst (λ (l : List ChangeParts). length l ≤ most_changes) (sym joined) few) there
