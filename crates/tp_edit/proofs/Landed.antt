-- Where an element that is visible after splices was before them.
use Rattle.std.proofs.Common.{◌≡◌, ℕ, ◌+◌, ◌-◌, ◌<◌, ◌≤◌, ◌^◌, List, [], ◌∷◌, ◌++◌, length, get_or, Some, refl, sym, ap, ◌∙◌, subst, arith, take, drop}
use Rattle.std.specs.Prelude.{slice_get}
use Rattle.std.proofs.lemmas.List.{length-append, length-take-le, length-drop, take_all, take_more, get_or_append_left, get_or-append_right, get_or-take, get_or-drop}
use Rattle.std.proofs.lemmas.Option.{slice_get-get_or}
use Rattle.tp_opid.specs.declared.actor.Actor.{Actor}
use Rattle.tp_opid.specs.declared.op_id.OpId.{OpId}
use Rattle.tp_change.specs.Operations.{id_of}
use Rattle.tp_change.specs.OpIds.{ids_from}
use Rattle.tp_change.proofs.OpsLaws.{length-ids_from, get_or-ids_from}
use Rattle.tp_edit.specs.declared.landing.Landing.{Landing}
use Rattle.tp_edit.specs.Splices.{splice_at}
use Rattle.tp_edit.specs.Landings.{ids_landed, ids_through, AllLandingsFit}

-- ---- one splice

pub length-splice_at : {X : Type 0} (V : List X) (at del : ℕ) (N : List X) → at + del ≤ length V → length (splice_at V at del N) ≡ (length V - del) + length N
length-splice_at V at del N fit =
    let prefix = length-take-le at V (omega arith) in
    let whole = length-append (take at V) (N ++ drop (at + del) V) in
    let back = length-append N (drop (at + del) V) in
    let rest = length-drop (at + del) V in
    omega (arith, prefix, whole, back, rest)

-- an element before the splice keeps its place
spliced_before : {X : Type 0} (V : List X) (at del : ℕ) (N : List X) (i : ℕ) (d : X) → at + del ≤ length V → i < at → slice_get (splice_at V at del N) i ≡ slice_get V i
spliced_before V at del N i d fit lt =
    let prefix = length-take-le at V (omega arith) in
    let size = length-splice_at V at del N fit in
    let short : i < length (take at V) = omega (arith, prefix) in
    let within : i < length (splice_at V at del N) = omega (arith, size) in
    slice_get-get_or (splice_at V at del N) i d within
    ∙ ap Some (get_or_append_left (take at V) (N ++ drop (at + del) V) d i short ∙ get_or-take at V i d lt)
    ∙ sym (slice_get-get_or V i d (omega arith))

-- an element of the inserted ones
spliced_new : {X : Type 0} (V : List X) (at del : ℕ) (N : List X) (i : ℕ) (d : X) → at + del ≤ length V → at ≤ i → i < at + length N → slice_get (splice_at V at del N) i ≡ Some (get_or N (i - at) d)
spliced_new V at del N i d fit le lt =
    let prefix = length-take-le at V (omega arith) in
    let size = length-splice_at V at del N fit in
    let within : i < length (splice_at V at del N) = omega (arith, size) in
    slice_get-get_or (splice_at V at del N) i d within
    ∙ ap Some (get_or-append_right (take at V) (N ++ drop (at + del) V) at i d prefix le ∙ get_or_append_left N (drop (at + del) V) d (i - at) (omega arith))

-- an element after the splice
spliced_after : {X : Type 0} (V : List X) (at del : ℕ) (N : List X) (i : ℕ) (d : X) → at + del ≤ length V → at + length N ≤ i → i < length (splice_at V at del N) → slice_get (splice_at V at del N) i ≡ slice_get V ((i - length N) + del)
spliced_after V at del N i d fit le within =
    let prefix = length-take-le at V (omega arith) in
    let size = length-splice_at V at del N fit in
    let place : (at + del) + ((i - at) - length N) ≡ (i - length N) + del = omega arith in
    slice_get-get_or (splice_at V at del N) i d within
    ∙ ap Some (
    get_or-append_right (take at V) (N ++ drop (at + del) V) at i d prefix (omega arith)
    ∙ get_or-append_right N (drop (at + del) V) (length N) (i - at) d refl (omega arith)
    ∙ get_or-drop (at + del) V ((i - at) - length N) d
    ∙ ap (λ k. get_or V k d) place
    )
    ∙ sym (slice_get-get_or V ((i - length N) + del) d (omega (arith, size)))

-- ---- one landing

pub length-ids_landed : (a : Actor) (V : List OpId) (l : Landing) → l.at + l.del ≤ length V → length (ids_landed a V l) ≡ (length V - l.del) + l.len
length-ids_landed a V l fit =
    length-splice_at V l.at l.del (ids_from a l.first l.len) fit ∙ ap (λ k. (length V - l.del) + k) (length-ids_from a l.first l.len)

pub landed_before : (a : Actor) (V : List OpId) (l : Landing) (i : ℕ) → l.at + l.del ≤ length V → i < l.at → slice_get (ids_landed a V l) i ≡ slice_get V i
landed_before a V l i fit lt = spliced_before V l.at l.del (ids_from a l.first l.len) i (id_of a 0) fit lt

pub landed_new : (a : Actor) (V : List OpId) (l : Landing) (i : ℕ) → l.at + l.del ≤ length V → l.at ≤ i → i < l.at + l.len → slice_get (ids_landed a V l) i ≡ Some (id_of a (l.first + (i - l.at)))
landed_new a V l i fit le lt =
    let size = length-ids_from a l.first l.len in
    spliced_new V l.at l.del (ids_from a l.first l.len) i (id_of a 0) fit le (omega (arith, size))
    ∙ ap Some (get_or-ids_from a l.first l.len (i - l.at) (id_of a 0) (omega arith))

pub landed_after : (a : Actor) (V : List OpId) (l : Landing) (i : ℕ) → l.at + l.del ≤ length V → l.at + l.len ≤ i → i < length (ids_landed a V l) → slice_get (ids_landed a V l) i ≡ slice_get V ((i - l.len) + l.del)
landed_after a V l i fit le within =
    let size = length-ids_from a l.first l.len in
    spliced_after V l.at l.del (ids_from a l.first l.len) i (id_of a 0) fit (omega (arith, size)) within
    ∙ ap (λ k. slice_get V ((i - k) + l.del)) size

-- ---- one landing after others

pub ids_through-push : (a : Actor) (V : List OpId) (ls : List Landing) (l : Landing) → ids_through a V (ls ++ l ∷ []) ≡ ids_landed a (ids_through a V ls) l
ids_through-push a V [] l = refl
ids_through-push a V (k ∷ ls) l = ids_through-push a (ids_landed a V k) ls l

-- the landing fits the elements that the ones before it left
pub record FitsLast (a : Actor) (V : List OpId) (ls : List Landing) (l : Landing) : Type 0 where
  pub before : AllLandingsFit a V ls
  pub place : l.at + l.del ≤ length (ids_through a V ls)
  pub counters : l.first + l.len ≤ 2 ^ 64

pub FitsLast-push : (a : Actor) (V : List OpId) (ls : List Landing) (l : Landing) → AllLandingsFit a V (ls ++ l ∷ []) → FitsLast a V ls l
FitsLast-push a V [] l fit = record { before = tt; place = fit.0; counters = fit.1 }
FitsLast-push a V (k ∷ ls) l fit =
    let rest = FitsLast-push a (ids_landed a V k) ls l fit.2 in
    record { before = (fit.0, fit.1, rest.before); place = rest.place; counters = rest.counters }

-- ---- the way back through the landings

-- The element at the place `from` after all landings was at `place` before the landings from `left` on.
pub record IsTraced (a : Actor) (V : List OpId) (ls : List Landing) (from left place : ℕ) : Type 0 where
  pub within : left ≤ length ls
  pub fit : AllLandingsFit a V (take left ls)
  pub there : place < length (ids_through a V (take left ls))
  pub same : slice_get (ids_through a V ls) from ≡ slice_get (ids_through a V (take left ls)) place

-- The element at the place `from` after all landings was at `place` right after the landing l, the one at `left`.
pub record IsBehind (a : Actor) (V : List OpId) (ls : List Landing) (from left place : ℕ) (l : Landing) : Type 0 where
  pub within : left ≤ length ls
  pub last : FitsLast a V (take left ls) l
  pub there : place < length (ids_landed a (ids_through a V (take left ls)) l)
  pub same : slice_get (ids_through a V ls) from ≡ slice_get (ids_landed a (ids_through a V (take left ls)) l) place

pub IsTraced-all : (a : Actor) (V : List OpId) (ls : List Landing) (place : ℕ) → AllLandingsFit a V ls → place < length (ids_through a V ls) → IsTraced a V ls place (length ls) place
IsTraced-all a V ls place fit lt =
    let whole : take (length ls) ls ≡ ls = take_all (length ls) ls (omega arith) in record {
      within = omega arith;
      fit = subst (AllLandingsFit a V) (sym whole) fit;
      there = subst (λ k. place < length (ids_through a V k)) (sym whole) lt;
      same = ap (λ k. slice_get (ids_through a V k) place) (sym whole);
    }

pub stepped : (a : Actor) (V : List OpId) (ls : List Landing) (from left place : ℕ) (d : Landing) → 0 < left → IsTraced a V ls from left place → IsBehind a V ls from (left - 1) place (get_or ls (left - 1) d)
stepped a V ls from left place d some h =
    let m = left - 1 in
    let l = get_or ls m d in
    let up : m + 1 ≡ left = omega arith in
    let lt : m < length ls = omega (arith, h.within) in
    let split : take left ls ≡ take m ls ++ l ∷ [] = ap (λ k. take k ls) (sym up) ∙ take_more ls m d lt in
    let last : ids_through a V (take left ls) ≡ ids_landed a (ids_through a V (take m ls)) l =
    ap (ids_through a V) split ∙ ids_through-push a V (take m ls) l in
    record {
      within = omega (arith, h.within);
      last = FitsLast-push a V (take m ls) l (subst (AllLandingsFit a V) split h.fit);
      there = subst (λ k. place < length k) last h.there;
      same = h.same ∙ ap (λ k. slice_get k place) last;
    }

-- it was before the landing, at the same place
pub traced_before : (a : Actor) (V : List OpId) (ls : List Landing) (from left place : ℕ) (l : Landing) → IsBehind a V ls from left place l → place < l.at → IsTraced a V ls from left place
traced_before a V ls from left place l h lt =
    let W = ids_through a V (take left ls) in
    let fit : l.at + l.del ≤ length W = h.last.place in
    record {
      within = h.within;
      fit = h.last.before;
      there = omega arith;
      same = h.same ∙ landed_before a W l place fit lt;
    }

-- it is one of those that the landing inserted
pub traced_new : (a : Actor) (V : List OpId) (ls : List Landing) (from left place : ℕ) (l : Landing) → IsBehind a V ls from left place l → l.at ≤ place → place < l.at + l.len → slice_get (ids_through a V ls) from ≡ Some (id_of a (l.first + (place - l.at)))
traced_new a V ls from left place l h le lt =
    h.same ∙ landed_new a (ids_through a V (take left ls)) l place h.last.place le lt

-- it was after the landing
pub traced_after : (a : Actor) (V : List OpId) (ls : List Landing) (from left place : ℕ) (l : Landing) → IsBehind a V ls from left place l → l.at + l.len ≤ place → IsTraced a V ls from left ((place - l.len) + l.del)
traced_after a V ls from left place l h le =
    let W = ids_through a V (take left ls) in
    let fit : l.at + l.del ≤ length W = h.last.place in
    let size = length-ids_landed a W l fit in
    record {
      within = h.within;
      fit = h.last.before;
      there = omega (arith, size, h.there);
      same = h.same ∙ landed_after a W l place fit le h.there;
    }

-- before all landings it was in the sequence
pub traced_end : (a : Actor) (V : List OpId) (ls : List Landing) (from left place : ℕ) → left ≤ 0 → IsTraced a V ls from left place → (slice_get (ids_through a V ls) from ≡ slice_get V place) × (place < length V)
traced_end a V ls from left place none h =
    let e : left ≡ 0 = omega arith in
    (h.same ∙ ap (λ k. slice_get (ids_through a V (take k ls)) place) e, subst (λ k. place < length (ids_through a V (take k ls))) e h.there)
