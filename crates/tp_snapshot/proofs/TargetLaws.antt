-- Stretches of elements: what each covers, their order, and the search for an element among them.
use Rattle.tp_snapshot.proofs.Common.{◌≡◌, ◌⊎◌, ℕ, zero, suc, ◌<◌, ◌≤◌, ◌+◌, ◌-◌, Bool, true, false, cond, ◌||◌, ◌&&◌, refl, subst, List, [], ◌∷◌, length, take, get_or, Err, inl, inr, ap, sym, ◌∙◌, arith, nat_lt, IsBinarySearchResult, IsSorted, OpId, Actor, id_eq, id_eq-same, id_eq-itself, same_actor, same_actor-same, same_actor-apart, take_more, filter-append, same_test, not_true, or_cases, or_right, has_op, is_removed, is_within, is_in_stretches, stretch_cmp, StartsBefore, StretchPrecedes, deletes_by, AreTargets}
use Rattle.std.specs.Prelude.{min, max, nat_eq, nat_le, set}
use Rattle.std.specs.List.{AllAdjacentBelow, HoldsAt}
use Rattle.std.specs.Ordering.{nat_cmp, is_lt, ordering_then, ordering_index, ordering_reverse}
use Rattle.std.specs.Cmp.Lexicographic.{slice_cmp}
use Rattle.std.specs.declared.cmp.Ordering.{Ordering}
use Rattle.std.specs.declared.cmp.Ordering.TheVariants.{Less, Equal, Greater}
use Rattle.std.proofs.lemmas.Slice.Eq.{bytes_eq-Decides}
use Rattle.std.specs.Str.{bytes_eq}
use Rattle.std.proofs.lemmas.Bool.{cases_eq, cases_lt, eqb-true, leb-true, le-leb, ltb-true, ltb-false, lt-ltb}
use Rattle.std.proofs.lemmas.Bool.Decides.{nat_tests}
use Rattle.std.proofs.lemmas.Cmp.{tied_itself}
use Rattle.std.proofs.lemmas.List.{get_or-set_same, get_or-set_other, get_or_default, length-set}
use Rattle.std.proofs.lemmas.List.Folds.{list_any_at, list_any_none, list_any-append}
use Rattle.std.proofs.lemmas.List.Sorted.{IsNonDecreasingBy-from_all_adjacent, all_adjacent_more}
use Rattle.tp_snapshot.specs.declared.targets.Stretch.{Stretch}
use Rattle.tp_list.proofs.Tests.{both, both_left, both_right, or_left}
use Rattle.tp_opid.specs.Order.{actor_cmp}
use Rattle.tp_opid.proofs.Orders.{actor_total, actor_exact, same_actor-itself}

-- ---- what a stretch covers

within_parts : (s : Stretch) (x : OpId) → is_within s x ≡ true → (s.actor ≡ x.actor) × (s.low ≤ x.counter) × (x.counter ≤ s.high)
within_parts s x h =
    let ends = both_left (nat_le s.low x.counter && nat_le x.counter s.high) (same_actor s.actor x.actor) h in
    (same_actor-same s.actor x.actor (both_right _ _ h), leb-true s.low x.counter (both_left _ _ ends), leb-true x.counter s.high (both_right _ _ ends))

within_from : (s : Stretch) (x : OpId) → s.actor ≡ x.actor → s.low ≤ x.counter → x.counter ≤ s.high → is_within s x ≡ true
within_from s x one low high =
    both _ _ (both _ _ (le-leb s.low x.counter low) (le-leb x.counter s.high high)) (ap (λ a. same_actor a x.actor) one ∙ same_actor-itself x.actor)

one_id : (x y : OpId) → x.actor ≡ y.actor → x.counter ≡ y.counter → id_eq x y ≡ true
one_id x y actor counter =
    let same : x ≡ y =
    ap (λ (n : ℕ). let z : OpId = record { counter = n; actor = x.actor } in z) counter
    ∙ ap (λ (a : Actor). let z : OpId = record { counter = y.counter; actor = a } in z) actor in
    ap (λ z. id_eq z y) same ∙ id_eq-itself y

-- a stretch of one element
pub alone_covers : (s : Stretch) (id x : OpId) → s ≡ record { actor = id.actor; low = id.counter; high = id.counter } → is_within s x ≡ id_eq id x
alone_covers s id x is =
    let low = ap (λ (t : Stretch). t.low) is in
    let high = ap (λ (t : Stretch). t.high) is in
    let actor = ap (λ (t : Stretch). t.actor) is in
    same_test (is_within s x) (id_eq id x)
    (λ h. let p = within_parts s x h in one_id id x (sym actor ∙ p.0) (omega (arith, p.1, p.2, low, high)))
    (λ h.
    let same = id_eq-same id x h in
    let counter = ap (λ (y : OpId). y.counter) same in
    within_from s x (actor ∙ ap (λ (y : OpId). y.actor) same) (omega (arith, low, counter)) (omega (arith, high, counter)))

-- a stretch and an element that is one of it or next to it
pub next_covers : (s t : Stretch) (id x : OpId) → s.actor ≡ id.actor → s.low - 1 ≤ id.counter → id.counter - 1 ≤ s.high
    → t ≡ record { actor = s.actor; low = min s.low id.counter; high = max s.high id.counter } → is_within t x ≡ (is_within s x || id_eq id x)
next_covers s t id x one near_low near_high is =
    let low : t.low ≡ min s.low id.counter = ap (λ (u : Stretch). u.low) is in
    let high : t.high ≡ max s.high id.counter = ap (λ (u : Stretch). u.high) is in
    let actor : t.actor ≡ s.actor = ap (λ (u : Stretch). u.actor) is in
    same_test (is_within t x) (is_within s x || id_eq id x)
    (λ h. let p = within_parts t x h in
    elim (cases_eq id.counter x.counter) [
      | inl e ↦ or_right (is_within s x) (id_eq id x) (one_id id x (sym one ∙ sym actor ∙ p.0) e)
      | inr other ↦ or_left (is_within s x) (id_eq id x)
          (within_from s x (sym actor ∙ p.0) (omega (arith, p.1, p.2, low, high, near_low, near_high, other)) (omega (arith, p.1, p.2, low, high, near_low, near_high, other)))
    ])
    (λ h. elim (or_cases (is_within s x) (id_eq id x) h) [
      | inl old ↦ let p = within_parts s x old in within_from t x (actor ∙ p.0) (omega (arith, p.1, low)) (omega (arith, p.2, high))
      | inr new ↦
          let same = id_eq-same id x new in
          let counter : id.counter ≡ x.counter = ap (λ (y : OpId). y.counter) same in
          within_from t x (actor ∙ one ∙ ap (λ (y : OpId). y.actor) same) (omega (arith, low, counter)) (omega (arith, high, counter))
    ])

-- ---- on which side of an element a stretch is

pub not_below : (a b : ℕ) → b ≤ a → nat_lt a b ≡ false
not_below a b le = not_true (nat_lt a b) (λ h. let lt = ltb-true a b h in absurd (omega (arith, lt, le)))

side_within : (s : Stretch) (x : OpId) → is_within s x ≡ true → stretch_cmp s x ≡ Equal
side_within s x h =
    let p = within_parts s x h in
    ap (λ o. ordering_then o (cond (nat_lt s.high x.counter) Less (cond (nat_lt x.counter s.low) Greater Equal))) (ap (actor_cmp s.actor) (sym p.0) ∙ tied_itself actor_total s.actor)
    ∙ ap (λ b. cond b Less (cond (nat_lt x.counter s.low) Greater Equal)) (not_below s.high x.counter p.2)
    ∙ ap (λ b. cond b Greater Equal) (not_below x.counter s.low p.1)

within_by : (s : Stretch) (x : OpId) (o : Ordering) (a b : Bool) → actor_cmp s.actor x.actor ≡ o → nat_lt s.high x.counter ≡ a → nat_lt x.counter s.low ≡ b
    → ordering_then o (cond a Less (cond b Greater Equal)) ≡ Equal → is_within s x ≡ true
within_by s x Less a b actor high low h = cc
within_by s x Greater a b actor high low h = cc
within_by s x Equal true b actor high low h = cc
within_by s x Equal false true actor high low h = cc
within_by s x Equal false false actor high low h = within_from s x (actor_exact s.actor x.actor actor) (ltb-false x.counter s.low low) (ltb-false s.high x.counter high)

within_side : (s : Stretch) (x : OpId) → stretch_cmp s x ≡ Equal → is_within s x ≡ true
within_side s x h = within_by s x (actor_cmp s.actor x.actor) (nat_lt s.high x.counter) (nat_lt x.counter s.low) refl refl refl h

at_most_two : (o : Ordering) → ordering_index o ≤ 2
at_most_two Less = omega arith
at_most_two Equal = omega arith
at_most_two Greater = omega arith

side_first : (s : Stretch) (x : OpId) (n : ℕ) → actor_cmp s.actor x.actor ≡ Less → ordering_index (stretch_cmp s x) ≤ n
side_first s x n h =
    let none : ordering_index (stretch_cmp s x) ≡ 0 = ap (λ o. ordering_index (ordering_then o (cond (nat_lt s.high x.counter) Less (cond (nat_lt x.counter s.low) Greater Equal)))) h in
    omega (arith, none)

side_last : (s : Stretch) (x : OpId) (o : Ordering) → actor_cmp s.actor x.actor ≡ Greater → ordering_index o ≤ ordering_index (stretch_cmp s x)
side_last s x o h =
    let two : ordering_index (stretch_cmp s x) ≡ 2 = ap (λ o. ordering_index (ordering_then o (cond (nat_lt s.high x.counter) Less (cond (nat_lt x.counter s.low) Greater Equal)))) h in
    omega (arith, two, at_most_two o)

side_by : (o : Ordering) (a b c d : Bool) → (c ≡ true → a ≡ true) → (b ≡ true → d ≡ true)
    → ordering_index (ordering_then o (cond a Less (cond b Greater Equal))) ≤ ordering_index (ordering_then o (cond c Less (cond d Greater Equal)))
side_by Less a b c d f g = omega arith
side_by Greater a b c d f g = omega arith
side_by Equal true b c d f g = omega arith
side_by Equal false b true d f g = let e = f refl in cc
side_by Equal false true false true f g = omega arith
side_by Equal false true false false f g = let e = g refl in cc
side_by Equal false false false true f g = omega arith
side_by Equal false false false false f g = omega arith

below_too : (a b c : ℕ) → b ≤ a → nat_lt a c ≡ true → nat_lt b c ≡ true
below_too a b c le h = let lt = ltb-true a c h in lt-ltb b c (omega (arith, lt, le))

below_more : (a b c : ℕ) → b ≤ c → nat_lt a b ≡ true → nat_lt a c ≡ true
below_more a b c le h = let lt = ltb-true a b h in lt-ltb a c (omega (arith, lt, le))

-- the side does not fall from a stretch to one that it precedes
side_rises : (s t : Stretch) (x : OpId) → StretchPrecedes s t → ordering_index (stretch_cmp s x) ≤ ordering_index (stretch_cmp t x)
side_rises s t x (inl below) = by (actor_cmp t.actor x.actor) refl
  where
    by : (o : Ordering) → actor_cmp t.actor x.actor ≡ o → ordering_index (stretch_cmp s x) ≤ ordering_index (stretch_cmp t x)
    by Less e = side_first s x _ (actor_total.trans s.actor t.actor x.actor below e)
    by Equal e = side_first s x _ (ap (actor_cmp s.actor) (sym (actor_exact t.actor x.actor e)) ∙ below)
    by Greater e = side_last t x (stretch_cmp s x) e
side_rises s t x (inr p) =
    subst (λ (o : Ordering). ordering_index (stretch_cmp s x) ≤ ordering_index (ordering_then o (cond (nat_lt t.high x.counter) Less (cond (nat_lt x.counter t.low) Greater Equal)))) (ap (λ a. actor_cmp a x.actor) p.0)
    (side_by (actor_cmp s.actor x.actor) (nat_lt s.high x.counter) (nat_lt x.counter s.low) (nat_lt t.high x.counter) (nat_lt x.counter t.low) (below_too t.high s.high x.counter p.2) (below_more x.counter s.low t.low p.1))

-- ---- the search

-- one that is found
pub one_found : (stretches : List Stretch) (i : ℕ) (x : OpId) → i < length stretches → HoldsAt (λ s. stretch_cmp s x ≡ Equal) stretches i → is_in_stretches stretches x ≡ true
one_found stretches i x lt at =
    let d : Stretch = record { actor = x.actor; low = 0; high = 0 } in
    list_any_at (λ s. is_within s x) stretches i d lt (within_side (get_or stretches i d) x (at d))

outside : (s : Stretch) (x : OpId) → (stretch_cmp s x ≡ Less) ⊎ (stretch_cmp s x ≡ Greater) → is_within s x ≡ false
outside s x (inl less) = not_true (is_within s x) (λ h. let e = side_within s x h in cc)
outside s x (inr greater) = not_true (is_within s x) (λ h. let e = side_within s x h in cc)

-- one that isn't found
pub none_found : (stretches : List Stretch) (i : ℕ) (x : OpId) → AllAdjacentBelow StretchPrecedes stretches (length stretches) → IsBinarySearchResult (λ s. stretch_cmp s x) stretches (Err i) → is_in_stretches stretches x ≡ false
none_found stretches i x rise search =
    let parts = search (IsNonDecreasingBy-from_all_adjacent (λ s. ordering_index (stretch_cmp s x)) stretches (λ k d lt. side_rises (get_or stretches k d) (get_or stretches (k + 1) d) x (rise k d lt))) in
    list_any_none (λ s. is_within s x) stretches (λ k d lt. elim (cases_lt k i) [
      | inl below ↦ outside (get_or stretches k d) x (inl (parts.0 k d (omega arith) below))
      | inr from ↦ outside (get_or stretches k d) x (inr (parts.1 k d from lt))
    ])

-- ---- the order of stretches

begins_no_sooner : (a b : ℕ) (o : Ordering) → is_lt (ordering_then (nat_cmp a b) o) ≡ false → b ≤ a
begins_no_sooner a b o h = elim (cases_lt a b) [
  | inl lt ↦
      let less : nat_cmp a b ≡ Less = grind (arith, nat_tests) in
      let e : is_lt (ordering_then (nat_cmp a b) o) ≡ true = ap (λ v. is_lt (ordering_then v o)) less in cc
  | inr le ↦ le
]

starts_by : (s t : Stretch) (o : Ordering) → actor_cmp t.actor s.actor ≡ o → is_lt (ordering_then o (ordering_then (nat_cmp t.low s.low) (nat_cmp t.high s.high))) ≡ false → StartsBefore s t
starts_by s t Less e h = cc
starts_by s t Equal e h = inr (sym (actor_exact t.actor s.actor e), begins_no_sooner t.low s.low (nat_cmp t.high s.high) h)
starts_by s t Greater e h = inl (actor_total.antisymm s.actor t.actor ∙ ap ordering_reverse e)

-- sorted by actor, beginning and end
pub sorted_starts : (stretches : List Stretch)
    → IsSorted (λ (s t : Stretch). ordering_then (slice_cmp nat_cmp s.actor.0 t.actor.0) (ordering_then (nat_cmp s.low t.low) (nat_cmp s.high t.high))) stretches
    → AllAdjacentBelow StartsBefore stretches (length stretches)
unfolding actor_cmp
sorted_starts stretches sorted k d lt =
    let s = get_or stretches k d in
    let t = get_or stretches (k + 1) d in
    starts_by s t (actor_cmp t.actor s.actor) refl (sorted k d (omega arith) lt)

begins_no_later : (s t : Stretch) → s.actor ≡ t.actor → StartsBefore s t → s.low ≤ t.low
begins_no_later s t one (inl below) = let tied : actor_cmp s.actor t.actor ≡ Equal = ap (actor_cmp s.actor) (sym one) ∙ tied_itself actor_total s.actor in cc
begins_no_later s t one (inr p) = p.1

-- ---- a stretch that comes again

abbrev pub is_same : Stretch → Stretch → Bool
is_same s t = bytes_eq s.actor.0 t.actor.0 && (nat_eq s.low t.low && nat_eq s.high t.high)

all_three : (a b c : Bool) → (a && (b && c)) ≡ true → (a ≡ true) × (b ≡ true) × (c ≡ true)
all_three true true true h = (refl, refl, refl)
all_three true true false h = absurd cc
all_three true false c h = absurd cc
all_three false b c h = absurd cc

pub one_stretch : (s t : Stretch) → is_same s t ≡ true → s ≡ t
one_stretch s t h =
    let each = all_three (bytes_eq s.actor.0 t.actor.0) (nat_eq s.low t.low) (nat_eq s.high t.high) h in
    let bytes : s.actor.0 ≡ t.actor.0 = (bytes_eq-Decides s.actor.0 t.actor.0).0 each.0 in
    let low : s.low ≡ t.low = eqb-true s.low t.low each.1 in
    let high : s.high ≡ t.high = eqb-true s.high t.high each.2 in
    ap (λ (b : List ℕ). let u : Stretch = record { actor = record { 0 = b }; low = s.low; high = s.high } in u) bytes
    ∙ ap (λ (l : ℕ). let u : Stretch = record { actor = t.actor; low = l; high = s.high } in u) low
    ∙ ap (λ (l : ℕ). let u : Stretch = record { actor = t.actor; low = t.low; high = l } in u) high

-- ---- an end that rises

pub apart_order : (s t : Stretch) → same_actor s.actor t.actor ≡ false → StartsBefore s t → StretchPrecedes s t
apart_order s t apart (inl below) = inl below
apart_order s t apart (inr p) = absurd (same_actor-apart s.actor t.actor apart p.0)

pub ends_order : (s t : Stretch) → s.high ≤ t.high → StartsBefore s t → StretchPrecedes s t
ends_order s t le (inl below) = inl below
ends_order s t le (inr p) = inr (p.0, p.1, le)

-- the stretch before covers what is added
pub raised_covers : (s t u : Stretch) (x : OpId) → s.actor ≡ t.actor → StartsBefore s t → u ≡ record { actor = t.actor; low = t.low; high = max t.high s.high }
    → (is_within s x || is_within u x) ≡ (is_within s x || is_within t x)
raised_covers s t u x one starts is =
    let low : u.low ≡ t.low = ap (λ (v : Stretch). v.low) is in
    let high : u.high ≡ max t.high s.high = ap (λ (v : Stretch). v.high) is in
    let actor : u.actor ≡ t.actor = ap (λ (v : Stretch). v.actor) is in
    let before = begins_no_later s t one starts in
    same_test (is_within s x || is_within u x) (is_within s x || is_within t x)
    (λ h. elim (or_cases (is_within s x) (is_within u x) h) [
      | inl first ↦ or_left (is_within s x) (is_within t x) first
      | inr second ↦
          let p = within_parts u x second in
          elim (cases_lt t.high x.counter) [
            | inl beyond ↦ or_left (is_within s x) (is_within t x) (within_from s x (one ∙ sym actor ∙ p.0) (omega (arith, p.1, low, before)) (omega (arith, p.2, high, beyond)))
            | inr inside ↦ or_right (is_within s x) (is_within t x) (within_from t x (sym actor ∙ p.0) (omega (arith, p.1, low)) inside)
          ]
    ])
    (λ h. elim (or_cases (is_within s x) (is_within t x) h) [
      | inl first ↦ or_left (is_within s x) (is_within u x) first
      | inr second ↦ let p = within_parts t x second in or_right (is_within s x) (is_within u x) (within_from u x (actor ∙ p.0) (omega (arith, p.1, low)) (omega (arith, p.2, high)))
    ])

-- ---- a stretch that is written over

or_same : (a b c r : Bool) → (a || b) ≡ (a || c) → (a || (b || r)) ≡ (a || (c || r))
or_same true b c r h = refl
or_same false b c r h = ap (λ v. v || r) h

-- a stretch that has with the one before it what the old one has
covers_set : (l : List Stretch) (j : ℕ) (d t : Stretch) (x : OpId) → suc j < length l
    → (is_within (get_or l j d) x || is_within t x) ≡ (is_within (get_or l j d) x || is_within (get_or l (suc j) d) x) → is_in_stretches (set l (suc j) t) x ≡ is_in_stretches l x
covers_set [] j d t x lt h = absurd (omega arith)
covers_set (s ∷ []) j d t x lt h = absurd (omega arith)
covers_set (s ∷ u ∷ l) zero d t x lt h = or_same (is_within s x) (is_within t x) (is_within u x) (is_in_stretches l x) h
covers_set (s ∷ u ∷ l) (suc j) d t x lt h = ap (λ b. is_within s x || b) (covers_set (u ∷ l) j d t x (omega arith) h)

pub covers_same : (l : List Stretch) (i : ℕ) (d t : Stretch) (x : OpId) → 0 < i → i < length l
    → (is_within (get_or l (i - 1) d) x || is_within t x) ≡ (is_within (get_or l (i - 1) d) x || is_within (get_or l i d) x) → is_in_stretches (set l i t) x ≡ is_in_stretches l x
covers_same l i d t x pos lt h =
    let e : suc (i - 1) ≡ i = omega (arith, pos) in
    ap (λ n. is_in_stretches (set l n t) x) (sym e)
    ∙ covers_set l (i - 1) d t x (omega (arith, pos, lt)) (h ∙ ap (λ n. is_within (get_or l (i - 1) d) x || is_within (get_or l n d) x) (sym e))

start_at : (l : List Stretch) (i k : ℕ) (d t : Stretch) → i < length l → t.actor ≡ (get_or l i d).actor → t.low ≡ (get_or l i d).low
    → ((get_or (set l i t) k d).actor ≡ (get_or l k d).actor) × ((get_or (set l i t) k d).low ≡ (get_or l k d).low)
start_at l i k d t lt actor low = elim (cases_eq k i) [
  | inl e ↦
      let at : get_or (set l i t) k d ≡ t = ap (λ n. get_or (set l i t) n d) e ∙ get_or-set_same l i t d lt in
      (ap (λ (s : Stretch). s.actor) at ∙ actor ∙ ap (λ n. (get_or l n d).actor) (sym e), ap (λ (s : Stretch). s.low) at ∙ low ∙ ap (λ n. (get_or l n d).low) (sym e))
  | inr other ↦
      let at = get_or-set_other l i k t d other in
      (ap (λ (s : Stretch). s.actor) at, ap (λ (s : Stretch). s.low) at)
]

starts_like : (s t u v : Stretch) → (u.actor ≡ s.actor) × (u.low ≡ s.low) → (v.actor ≡ t.actor) × (v.low ≡ t.low) → StartsBefore s t → StartsBefore u v
starts_like s t u v p q (inl below) = inl (ap (λ a. actor_cmp a v.actor) p.0 ∙ ap (actor_cmp s.actor) q.0 ∙ below)
starts_like s t u v p q (inr r) = inr (p.0 ∙ r.0 ∙ sym q.0, omega (arith, p.1, q.1, r.1))

-- one that begins where the old one does
pub starts_still : (l : List Stretch) (i : ℕ) (t d : Stretch) → i < length l → (t.actor ≡ (get_or l i d).actor) × (t.low ≡ (get_or l i d).low)
    → AllAdjacentBelow StartsBefore l (length l) → AllAdjacentBelow StartsBefore (set l i t) (length (set l i t))
starts_still l i t e lt start starts k d within =
    let read = get_or_default l i d e lt in
    let actor = start.0 ∙ ap (λ (s : Stretch). s.actor) (sym read) in
    let low = start.1 ∙ ap (λ (s : Stretch). s.low) (sym read) in
    starts_like (get_or l k d) (get_or l (k + 1) d) (get_or (set l i t) k d) (get_or (set l i t) (k + 1) d)
    (start_at l i k d t lt actor low) (start_at l i (k + 1) d t lt actor low) (starts k d (omega (arith, within, length-set l i t)))

-- one that the one before it precedes
pub order_more : (l : List Stretch) (i : ℕ) (t d : Stretch) → 0 < i → i < length l → StretchPrecedes (get_or l (i - 1) d) t
    → AllAdjacentBelow StretchPrecedes l i → AllAdjacentBelow StretchPrecedes (set l i t) (i + 1)
order_more l i t e pos lt next order =
    all_adjacent_more (set l i t) StretchPrecedes i pos
    (λ k d below.
    let apart : k ≡ i → ⊥ = omega (arith, below) in
    let apart_next : k + 1 ≡ i → ⊥ = omega (arith, below) in
    rw (get_or-set_other l i k t d apart, get_or-set_other l i (k + 1) t d apart_next) (order k d below))
    (λ d.
    let apart : i - 1 ≡ i → ⊥ = omega (arith, pos) in
    rw (get_or-set_other l i (i - 1) t d apart, get_or-set_same l i t d lt, get_or_default l (i - 1) d e (omega (arith, lt))) next)

or_last : (a b r : Bool) → ((a || b) || r) ≡ ((a || r) || b)
or_last true b r = refl
or_last false true true = refl
or_last false true false = refl
or_last false false true = refl
or_last false false false = refl

or_assoc : (a b c : Bool) → (a || (b || c)) ≡ ((a || b) || c)
or_assoc true b c = refl
or_assoc false b c = refl

-- one that covers an element more
pub covers_more : (l : List Stretch) (i : ℕ) (d t : Stretch) (x : OpId) (more : Bool) → i < length l → is_within t x ≡ (is_within (get_or l i d) x || more) → is_in_stretches (set l i t) x ≡ (is_in_stretches l x || more)
covers_more [] i d t x more lt h = absurd (omega arith)
covers_more (s ∷ l) zero d t x more lt h = ap (λ b. b || is_in_stretches l x) h ∙ or_last (is_within s x) more (is_in_stretches l x)
covers_more (s ∷ l) (suc i) d t x more lt h = ap (λ b. is_within s x || b) (covers_more l i d t x more (omega arith) h) ∙ or_assoc (is_within s x) (is_in_stretches l x) more

or_none : (b : Bool) → (b || false) ≡ b
or_none true = refl
or_none false = refl

-- ---- the targets of one delete more

deletes_more : (K : List (Actor × ℕ)) (R : List (OpId × OpId)) (i : ℕ) (e : OpId × OpId) (b : Bool) (x : OpId) → i < length R → has_op K (get_or R i e).1 ≡ b
    → is_removed (deletes_by K (take (i + 1) R)) x ≡ (is_removed (deletes_by K (take i R)) x || is_removed (cond b (get_or R i e ∷ []) []) x)
deletes_more K R i e b x lt h =
    let d = get_or R i e in
    ap (λ l. is_removed (deletes_by K l) x) (take_more R i e lt)
    ∙ ap (λ l. is_removed l x) (filter-append (λ (r : OpId × OpId). has_op K r.1) (take i R) (d ∷ []))
    ∙ list_any-append (λ (r : OpId × OpId). id_eq r.0 x) (deletes_by K (take i R)) (deletes_by K (d ∷ []))
    ∙ ap (λ v. is_removed (deletes_by K (take i R)) x || is_removed (cond v (d ∷ []) []) x) h

-- of the past
pub targets_more : (K : List (Actor × ℕ)) (R : List (OpId × OpId)) (i : ℕ) (e : OpId × OpId) (stretches new : List Stretch) → i < length R → has_op K (get_or R i e).1 ≡ true
    → ((x : OpId) → is_in_stretches new x ≡ (is_in_stretches stretches x || id_eq (get_or R i e).0 x)) → AreTargets stretches K (take i R) → AreTargets new K (take (i + 1) R)
targets_more K R i e stretches new lt h more old x =
    let d = get_or R i e in
    more x
    ∙ ap (λ b. b || id_eq d.0 x) (old x)
    ∙ ap (λ b. is_removed (deletes_by K (take i R)) x || b) (sym (or_none (id_eq d.0 x)))
    ∙ sym (deletes_more K R i e true x lt h)

-- of none
pub targets_still : (K : List (Actor × ℕ)) (R : List (OpId × OpId)) (i : ℕ) (e : OpId × OpId) (stretches new : List Stretch) → i < length R → has_op K (get_or R i e).1 ≡ false → new ≡ stretches
    → AreTargets stretches K (take i R) → AreTargets new K (take (i + 1) R)
targets_still K R i e stretches new lt h is old x =
    ap (λ (l : List Stretch). is_in_stretches l x) is ∙ old x
    ∙ sym (or_none (is_removed (deletes_by K (take i R)) x))
    ∙ sym (deletes_more K R i e false x lt h)
