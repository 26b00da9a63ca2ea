-- The changes that were made, entered one after another.
use Rattle.tp_world.proofs.Common.{◌≡◌, ℕ, zero, suc, ◌+◌, ◌<◌, List, [], ◌∷◌, ◌++◌, length, take, drop, get_or, Some, None, sym, ap, ◌∙◌, subst, add-one, take-append-drop, slice_get, option_map, pairs_of, take_all, take_more, Insert, ChangeParts, inserts, IsInOrder, Fits-at, Sound-prefix, seen_end}
use Rattle.tp_history.specs.Sound.{Sound}
use Rattle.std.proofs.Math.Seq.{drop-cons}
use Rattle.tp_history.proofs.TreeLaws.{inserts_tree}
use Rattle.tp_opid.specs.declared.op_id.OpId.{OpId}
use Rattle.tp_rga.specs.declared.walk.Seen.{Seen}
use Rattle.tp_rga.specs.Shown.{seen_of}
use Rattle.tp_change.specs.Operations.{ops_of}
use Rattle.tp_change.proofs.ElementLaws.{inserts-push}
use Rattle.tp_edit.specs.Applying.{CanApply, Extends}
use Rattle.tp_edit.proofs.Applied.{CanApply-same}
use Rattle.tp_document.proofs.SoundText.{CanApply-fits}

split_at : (C : List ChangeParts) (i : ℕ) (x : ChangeParts) → i < length C → x ≡ get_or C i x → C ≡ take i C ++ x ∷ drop (i + 1) C
split_at C i x lt is =
    sym (take-append-drop i C) ∙ ap (λ l. take i C ++ l) (rw (add-one) (drop-cons C i x lt) ∙ ap (λ (y : ChangeParts). y ∷ drop (i + 1) C) (sym is))

sound_so_far : (C : List ChangeParts) (i : ℕ) → Sound C → Sound (take i C)
sound_so_far C i s = Sound-prefix (take i C) (drop i C) (subst Sound (sym (take-append-drop i C)) s)

-- the operations of the next change may come
pub next_applies : (C : List ChangeParts) (i : ℕ) (x : ChangeParts) (L : List Insert) → Sound C → i < length C → x ≡ get_or C i x → IsInOrder (inserts (take i C)) L → CanApply L (ops_of x)
next_applies C i x L s lt is order =
    let fits = Fits-at (take i C) x (drop (i + 1) C) (subst Sound (split_at C i x lt is) s) in
    CanApply-same (inserts (take i C)) L order.same (ops_of x) (CanApply-fits (take i C) x (sound_so_far C i s) fits)

-- and once they are in the elements are those of the changes so far
pub next_placed : (C : List ChangeParts) (i : ℕ) (x : ChangeParts) (L M : List Insert) → Sound C → i < length C → x ≡ get_or C i x → IsInOrder (inserts (take i C)) L → Extends L M (ops_of x)
    → IsInOrder (inserts (take (i + 1) C)) M
next_placed C i x L M s lt is order grown =
    let placed = grown.order (inserts (take i C)) (inserts_tree (take i C) (sound_so_far C i s)) order in
    let more : take (i + 1) C ≡ take i C ++ x ∷ [] = take_more C i x lt ∙ ap (λ (y : ChangeParts). take i C ++ y ∷ []) (sym is) in
    subst (λ l. IsInOrder l M) (sym (ap inserts more ∙ inserts-push (take i C) x)) placed.1

-- ---- the elements, one after another

one_more : (R : List (OpId × OpId)) (L : List Insert) (k : ℕ) (e : Seen) → Some e ≡ option_map (seen_of R) (slice_get L k) → pairs_of (take (suc k) L) ≡ pairs_of (take k L) ++ (e.id, e.ch) ∷ []
one_more R [] k e h = absurd cc
one_more R (x ∷ L) zero e h = let same : e ≡ seen_of R x = cc in ap (λ (y : Seen). (y.id, y.ch) ∷ []) (sym same)
one_more R (x ∷ L) (suc k) e h = ap (λ l. (x.id, x.ch) ∷ l) (one_more R L k e h)

-- one element more
pub pairs_more : (R : List (OpId × OpId)) (L : List Insert) (k n : ℕ) (e : Seen) → Some e ≡ option_map (seen_of R) (slice_get L k) → n ≡ k + 1 → pairs_of (take n L) ≡ pairs_of (take k L) ++ (e.id, e.ch) ∷ []
pairs_more R L k n e h next = ap (λ m. pairs_of (take m L)) (next ∙ add-one k) ∙ one_more R L k e h

-- at the end of a walk there are all
pub pairs_all : (R : List (OpId × OpId)) (L : List Insert) (k : ℕ) → None ≡ option_map (seen_of R) (slice_get L k) → pairs_of (take k L) ≡ pairs_of L
pairs_all R L k end = ap pairs_of (take_all k L (seen_end R L k end))
