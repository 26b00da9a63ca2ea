-- What splices left alone.
use Rattle.std.proofs.Common.{◌≡◌, ℕ, zero, suc, ◌+◌, ◌-◌, ◌<◌, ◌≤◌, List, [], ◌∷◌, ◌++◌, length, refl, sym, ap, ◌∙◌, arith, take, drop, append_assoc}
use Rattle.std.specs.Prelude.{slice_get}
use Rattle.std.proofs.lemmas.List.{length-append, length-take-le, length-drop, take-take, take-append-le, drop-drop, drop_at}
use Rattle.tp_opid.specs.declared.actor.Actor.{Actor}
use Rattle.tp_opid.specs.declared.op_id.OpId.{OpId}
use Rattle.tp_change.specs.OpIds.{ids_from}
use Rattle.tp_change.proofs.OpsLaws.{length-ids_from}
use Rattle.tp_edit.specs.declared.landing.Edge.{Edge}
use Rattle.tp_edit.specs.declared.landing.Landing.{Landing}
use Rattle.tp_edit.specs.Splices.{splice_at}
use Rattle.tp_edit.specs.Landings.{IsEdge, ids_through}
use Rattle.tp_edit.proofs.Landed.{ids_through-push, length-ids_landed}

-- ---- elements of a part of a list

slice_get-drop : {X : Type 0} (n : ℕ) (xs : List X) (i : ℕ) → slice_get (drop n xs) i ≡ slice_get xs (n + i)
slice_get-drop zero xs i = ap (slice_get xs) (let e : i ≡ zero + i = omega arith in e)
slice_get-drop (suc n) [] i = refl
slice_get-drop (suc n) (x ∷ xs) i = slice_get-drop n xs i ∙ ap (slice_get (x ∷ xs)) (let e : suc (n + i) ≡ suc n + i = omega arith in e)

-- ---- where an element was

-- an element from the edge's end on
pub was_after : (a : Actor) (V : List OpId) (ls : List Landing) (e : Edge) (i : ℕ) → IsEdge a V ls e → e.end ≤ i → i < length (ids_through a V ls)
    → (e.base + (i - e.end) < length V) × (slice_get (ids_through a V ls) i ≡ slice_get V (e.base + (i - e.end)))
was_after a V ls e i edge le within =
    let W = ids_through a V ls in
    let k = i - e.end in
    let place : i ≡ e.end + k = omega arith in
    let after = length-drop e.end W in
    let before = length-drop e.base V in
    let as_many = ap length edge.tail in (
      omega (arith, after, before, as_many, edge.within, edge.before),
      ap (slice_get W) place ∙ sym (slice_get-drop e.end W k) ∙ ap (λ l. slice_get l k) edge.tail ∙ slice_get-drop e.base V k,
    )

-- ---- one splice more

-- what is before both
head_left : {X : Type 0} (W V N : List X) (at del h m : ℕ) → take h W ≡ take h V → m ≤ h → m ≤ at → at ≤ length W → take m (splice_at W at del N) ≡ take m V
head_left W V N at del h m same below short fit =
    let prefix = length-take-le at W fit in
    take-append-le m (take at W) (N ++ drop (at + del) W) (omega (arith, prefix))
    ∙ take-take m at W short ∙ sym (take-take m h W below) ∙ ap (take m) same ∙ take-take m h V below

-- what is after the splice
after_splice : {X : Type 0} (W N : List X) (at del n : ℕ) → at ≤ length W → length N ≡ n → drop (at + n) (splice_at W at del N) ≡ drop (at + del) W
after_splice W N at del n fit size =
    let prefix = length-take-le at W fit in
    let front = length-append (take at W) N in
    ap (drop (at + n)) (sym (append_assoc (take at W) N (drop (at + del) W)))
    ∙ drop_at (take at W ++ N) (drop (at + del) W) (at + n) (omega (arith, prefix, front, size))

tail_moved : {X : Type 0} (W V N : List X) (at del n end base : ℕ) → at ≤ length W → length N ≡ n → drop end W ≡ drop base V → end ≤ at + del
    → drop (at + n) (splice_at W at del N) ≡ drop (base + ((at + del) - end)) V
tail_moved W V N at del n end base fit size same le =
    let k = (at + del) - end in
    let place : at + del ≡ end + k = omega arith in
    after_splice W N at del n fit size ∙ ap (λ m. drop m W) place ∙ sym (drop-drop k end W) ∙ ap (drop k) same ∙ drop-drop k base V

tail_left : {X : Type 0} (W V N : List X) (at del n end base : ℕ) → at ≤ length W → length N ≡ n → drop end W ≡ drop base V → at + del < end
    → drop ((end - del) + n) (splice_at W at del N) ≡ drop base V
tail_left W V N at del n end base fit size same lt =
    let k = end - (at + del) in
    let place : (end - del) + n ≡ (at + n) + k = omega arith in
    let back : (at + del) + k ≡ end = omega arith in
    ap (λ m. drop m (splice_at W at del N)) place ∙ sym (drop-drop k (at + n) (splice_at W at del N)) ∙ ap (drop k) (after_splice W N at del n fit size)
    ∙ drop-drop k (at + del) W ∙ ap (λ m. drop m W) back ∙ same

-- ---- the edge

-- the landing ends after the edge's end
pub edge_moved : (a : Actor) (V : List OpId) (ls : List Landing) (e : Edge) (l : Landing) (head : ℕ) → IsEdge a V ls e → l.at + l.del ≤ length (ids_through a V ls) → e.end ≤ l.at + l.del → head ≤ e.head → head ≤ l.at
    → IsEdge a V (ls ++ l ∷ []) (record { head = head; end = l.at + l.len; base = e.base + ((l.at + l.del) - e.end) })
edge_moved a V ls e l head edge fit le below short =
    let W = ids_through a V ls in
    let N = ids_from a l.first l.len in
    let on = ids_through-push a V ls l in
    let size = length-ids_landed a W l fit in
    let after = length-drop e.end W in
    let before = length-drop e.base V in
    let as_many = ap length edge.tail in
    let whole = ap length on in
    record {
      head = ap (take head) on ∙ head_left W V N l.at l.del e.head head edge.head below short (omega (arith, fit));
      within = omega (arith, size, whole, fit);
      before = omega (arith, after, before, as_many, edge.within, edge.before, fit);
      tail = ap (drop (l.at + l.len)) on ∙ tail_moved W V N l.at l.del l.len e.end e.base (omega (arith, fit)) (length-ids_from a l.first l.len) edge.tail le;
    }

-- the landing ends before it
pub edge_left : (a : Actor) (V : List OpId) (ls : List Landing) (e : Edge) (l : Landing) (head : ℕ) → IsEdge a V ls e → l.at + l.del ≤ length (ids_through a V ls) → l.at + l.del < e.end → head ≤ e.head → head ≤ l.at
    → IsEdge a V (ls ++ l ∷ []) (record { head = head; end = (e.end - l.del) + l.len; base = e.base })
edge_left a V ls e l head edge fit lt below short =
    let W = ids_through a V ls in
    let N = ids_from a l.first l.len in
    let on = ids_through-push a V ls l in
    let size = length-ids_landed a W l fit in
    let whole = ap length on in
    record {
      head = ap (take head) on ∙ head_left W V N l.at l.del e.head head edge.head below short (omega (arith, fit));
      within = omega (arith, size, whole, fit, edge.within);
      before = edge.before;
      tail = ap (drop ((e.end - l.del) + l.len)) on ∙ tail_left W V N l.at l.del l.len e.end e.base (omega (arith, fit)) (length-ids_from a l.first l.len) edge.tail lt;
    }
