-- Laws of the marks that are kept of applied changes.
use Rattle.tp_graph.proofs.Common.{◌≡◌, ◌⊎◌, ℕ, ◌+◌, ◌<◌, ◌≤◌, inl, inr, List, [], ◌∷◌, ◌++◌, length, Bool, Some, sym, subst, arith, length-append, slice_get, slice_get_within, ChangeParts, count_of, Marks, IsMarked, IsMarkedAt, AreMarked, Marked, ◌∙◌, ap, AllZip}
use Rattle.tp_change.specs.Operations.{op_count}
use Rattle.tp_history.proofs.PlacesLaws.{at_push}
use Rattle.tp_graph.specs.Marked.{IsSameMarked}
use Rattle.tp_ancestry.proofs.CopyLaws.{each_over}

one_more : (C : List ChangeParts) (x : ChangeParts) → length (C ++ x ∷ []) ≡ length C + 1
one_more C x = length-append C (x ∷ [])

IsMarkedAt-push : (C : List ChangeParts) (x : ChangeParts) (m : Marked) → IsMarkedAt C m → IsMarkedAt (C ++ x ∷ []) m
IsMarkedAt-push C x m w =
    let small : m.place < length C = w.place in
    let more : length (C ++ x ∷ []) ≡ length C + 1 = one_more C x in
    record {
      place = omega arith;
      marked = λ c at. by c (at_push C x m.place c at);
    } where
      by : (c : ChangeParts) → ((slice_get C m.place ≡ Some c) ⊎ ((m.place ≡ length C) × (c ≡ x))) → IsMarked c m.deletes.items
      by c (inl at) = w.marked c at
      by c (inr z) =
          let small : m.place < length C = w.place in
          let end : m.place ≡ length C = z.0 in
          absurd (omega arith)

IsMarkedAt-last : (C : List ChangeParts) (x : ChangeParts) (m : Marked) → m.place ≡ length C → IsMarked x m.deletes.items → IsMarkedAt (C ++ x ∷ []) m
IsMarkedAt-last C x m end w =
    let more : length (C ++ x ∷ []) ≡ length C + 1 = one_more C x in
    record {
      place = omega arith;
      marked = λ c at. by c (at_push C x m.place c at);
    } where
      by : (c : ChangeParts) → ((slice_get C m.place ≡ Some c) ⊎ ((m.place ≡ length C) × (c ≡ x))) → IsMarked c m.deletes.items
      by c (inl at) =
          let small : m.place < length C = slice_get_within C m.place c at in
          absurd (omega arith)
      by c (inr z) = subst (λ (d : ChangeParts). IsMarked d m.deletes.items) (sym z.1) w

-- a change enters that isn't marked
pub AreMarked-more : (C : List ChangeParts) (x : ChangeParts) (ms : List Marked) → AreMarked C ms → AreMarked (C ++ x ∷ []) ms
AreMarked-more C x ms w k m at = IsMarkedAt-push C x m (w k m at)

-- a change enters whose marks are kept
pub AreMarked-push : (C : List ChangeParts) (x : ChangeParts) (ms : List Marked) (m : Marked) → m.place ≡ length C → IsMarked x m.deletes.items → AreMarked C ms → AreMarked (C ++ x ∷ []) (ms ++ m ∷ [])
AreMarked-push C x ms m end marked w k n at = by (at_push ms m k n at) where
  by : ((slice_get ms k ≡ Some n) ⊎ ((k ≡ length ms) × (n ≡ m))) → IsMarkedAt (C ++ x ∷ []) n
  by (inl here) = IsMarkedAt-push C x n (w k n here)
  by (inr z) = subst (IsMarkedAt (C ++ x ∷ [])) (sym z.1) (IsMarkedAt-last C x m end marked)

-- marks for all records are the change's
pub IsMarked-all : (c : ChangeParts) (deletes : List Bool) (count : ℕ) → Marks deletes c.start count c.records → count_of c.records ≤ length deletes → IsMarked c deletes
unfolding op_count
IsMarked-all c deletes count w room = record {
  marks = subst (λ n. Marks deletes c.start n c.records) w.counted w;
  room = room;
}

-- a change's marks are marks for its records, where the first counter and their number are known
pub IsMarked-counted : (c : ChangeParts) (deletes : List Bool) (n count : ℕ) → n ≡ c.start → count ≡ op_count c → IsMarked c deletes → Marks deletes n count c.records
IsMarked-counted c deletes n count first all w =
    subst (λ m. Marks deletes m count c.records) (sym first) (subst (λ m. Marks deletes c.start m c.records) (sym all) w.marks)

-- ---- a copy

IsMarkedAt-same : (C : List ChangeParts) (m n : Marked) → IsSameMarked m n → IsMarkedAt C m → IsMarkedAt C n
IsMarkedAt-same C m n same w = record {
  place = rw same.place w.place;
  marked = λ c at. rw same.deletes (w.marked c (ap (slice_get C) (sym same.place) ∙ at));
}

pub AreMarked-same : (C : List ChangeParts) (ms ns : List Marked) → AllZip IsSameMarked ms ns → AreMarked C ms → AreMarked C ns
AreMarked-same C ms ns = each_over IsSameMarked (IsMarkedAt C) (IsMarkedAt-same C) ms ns
