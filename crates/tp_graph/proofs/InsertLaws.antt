-- Laws of inserts and references.
use Rattle.tp_graph.proofs.Common.{◌≡◌, ℕ, suc, zero, ◌+◌, ◌-◌, ◌<◌, ◌≤◌, ◌==◌, inl, inr, List, [], ◌∷◌, ◌++◌, length, Bool, true, false, ◌||◌, ◌&&◌, nat_lt, nat_le, refl, sym, ap, ◌∙◌, subst, arith, take, drop, get_or, add-one, drop-cons, take_more, drop_all, eqb-true, eq-eqb, nat_tests, AllByRecursion, truth, same_test, or_left, or_right, both_left, both_right, both, Actor, OpId, Place, After, same_actor, id_eq, same_actor-same, same_actor-itself, id_eq-same, id_eq-itself, Record, Insert, Delete, DeleteRun, ChangeParts, ops_from, ops_in, run, deletes_from, id_of, count_in, count_of, IsRecord, IsChange, element, inserts_in, is_inserted, is_reference, refers, inserts_in-append, is_inserted-append, ops_from-append, SameIds, is_reference-same, grown, refers-append, grown-ids, covers, only_inserts, all_inserted, is_there, all_there}
use Rattle.std.proofs.lemmas.List.{append-nil}
use Rattle.tp_opid.specs.Insert as element_of
use Rattle.tp_change.specs.Operations.{ops_of, op_count}

-- ---- which identifiers are inserted

-- an identifier is another by its actor and its counter
id_eq-parts : (a : Actor) (n : ℕ) (id : OpId) → id_eq (id_of a n) id ≡ (same_actor a id.actor && (n == id.counter))
id_eq-parts a n id =
    same_test (id_eq (id_of a n) id) (same_actor a id.actor && (n == id.counter))
    (λ t.
    let e : id_of a n ≡ id = id_eq-same (id_of a n) id t in
    let actor : a ≡ id.actor = ap (λ (x : OpId). x.actor) e in
    let counter : n ≡ id.counter = ap (λ (x : OpId). x.counter) e in
    both (same_actor a id.actor) (n == id.counter) (subst (λ b. same_actor a b ≡ true) actor (same_actor-itself a)) (eq-eqb n id.counter counter))
    (λ t.
    let actor = same_actor-same a id.actor (both_left (same_actor a id.actor) (n == id.counter) t) in
    let counter = eqb-true n id.counter (both_right (same_actor a id.actor) (n == id.counter) t) in
    let e : id_of a n ≡ id = ap (λ b. id_of b n) actor ∙ ap (λ m. id_of id.actor m) counter in
    subst (λ x. id_eq (id_of a n) x ≡ true) e (id_eq-itself (id_of a n)))

one_more : (s : Bool) (n k m : ℕ) → ((s && (n == k)) || (s && (nat_le (n + 1) k && nat_lt k (n + 1 + m)))) ≡ (s && (nat_le n k && nat_lt k (n + suc m)))
one_more false n k m = refl
one_more true n k m = counted n k m where
  counted : (n k m : ℕ) → ((n == k) || (nat_le (n + 1) k && nat_lt k (n + 1 + m))) ≡ (nat_le n k && nat_lt k (n + suc m))
  counted n k m = grind (arith, nat_tests)

no_more : (s : Bool) (n k : ℕ) → false ≡ (s && (nat_le n k && nat_lt k (n + 0)))
no_more false n k = refl
no_more true n k = grind (arith, nat_tests)

-- the inserts of a run have the counters from the first on
pub is_inserted-run : (a : Actor) (n : ℕ) (after : Place) (text : List ℕ) (id : OpId) → is_inserted (inserts_in (run a n after text)) id ≡ (same_actor a id.actor && (nat_le n id.counter && nat_lt id.counter (n + length text)))
is_inserted-run a n after [] id = no_more (same_actor a id.actor) n id.counter
is_inserted-run a n after (ch ∷ text) id =
    ap (λ b. b || is_inserted (inserts_in (run a (n + 1) (After (id_of a n)) text)) id) (id_eq-parts a n id)
    ∙ ap (λ b. (same_actor a id.actor && (n == id.counter)) || b) (is_inserted-run a (n + 1) (After (id_of a n)) text id)
    ∙ one_more (same_actor a id.actor) n id.counter (length text)

-- a run of deletes inserts nothing
pub inserts_in-deletes_from : (a : Actor) (n : ℕ) (target : OpId) (count : ℕ) → inserts_in (deletes_from a n target count) ≡ []
inserts_in-deletes_from a n target zero = refl
inserts_in-deletes_from a n target (suc count) = inserts_in-deletes_from a (n + 1) (id_of target.actor (target.counter + 1)) count

-- the inserts of records are those at the counters that they cover
pub is_inserted-covers : (a : Actor) (n : ℕ) (rs : List Record) (id : OpId) → is_inserted (inserts_in (ops_from a n rs)) id ≡ (same_actor a id.actor && covers n rs id.counter)
is_inserted-covers a n [] id = none (same_actor a id.actor) where
  none : (s : Bool) → false ≡ (s && false)
  none s = grind arith
is_inserted-covers a n (Insert after text ∷ rs) id =
    ap (λ l. is_inserted l id) (inserts_in-append (run a n after text) (ops_from a (n + length text) rs))
    ∙ is_inserted-append (inserts_in (run a n after text)) (inserts_in (ops_from a (n + length text) rs)) id
    ∙ ap (λ b. b || is_inserted (inserts_in (ops_from a (n + length text) rs)) id) (is_inserted-run a n after text id)
    ∙ ap (λ b. (same_actor a id.actor && (nat_le n id.counter && nat_lt id.counter (n + length text))) || b) (is_inserted-covers a (n + length text) rs id)
    ∙ joined (same_actor a id.actor) (nat_le n id.counter && nat_lt id.counter (n + length text)) (covers (n + length text) rs id.counter) where
      joined : (s x y : Bool) → ((s && x) || (s && y)) ≡ (s && (x || y))
      joined s x y = grind arith
is_inserted-covers a n (Delete target ∷ rs) id = is_inserted-covers a (n + 1) rs id
is_inserted-covers a n (DeleteRun first count ∷ rs) id =
    ap (λ l. is_inserted l id)
    (inserts_in-append (deletes_from a n first count) (ops_from a (n + count) rs) ∙ ap (λ l. l ++ inserts_in (ops_from a (n + count) rs)) (inserts_in-deletes_from a n first count))
    ∙ is_inserted-covers a (n + count) rs id

-- ---- references depend on which identifiers are inserted

-- of a run only the first reference matters
run_goes_on : (a : Actor) (n : ℕ) (text : List ℕ) (S : List element_of.Insert) (p : OpId) → is_inserted S p ≡ true → refers S (run a n (After p) text) ≡ true
run_goes_on a n [] S p e = refl
run_goes_on a n (ch ∷ text) S p e =
    both (is_inserted S p) (refers (element (id_of a n) (After p) ch ∷ S) (run a (n + 1) (After (id_of a n)) text)) e
    (run_goes_on a (n + 1) text (element (id_of a n) (After p) ch ∷ S) (id_of a n) (or_left (id_eq (id_of a n) (id_of a n)) (is_inserted S (id_of a n)) (id_eq-itself (id_of a n))))

refers-run : (a : Actor) (n : ℕ) (after : Place) (text : List ℕ) (S : List element_of.Insert) → 0 < length text → refers S (run a n after text) ≡ is_reference S after
refers-run a n after [] S some = absurd (omega arith)
refers-run a n after (ch ∷ text) S some =
    ap (λ b. is_reference S after && b)
    (run_goes_on a (n + 1) text (element (id_of a n) after ch ∷ S) (id_of a n) (or_left (id_eq (id_of a n) (id_of a n)) (is_inserted S (id_of a n)) (id_eq-itself (id_of a n))))
    ∙ alone (is_reference S after) where
      alone : (b : Bool) → (b && true) ≡ b
      alone b = grind arith

refers-deletes_from : (a : Actor) (n : ℕ) (target : OpId) (count : ℕ) (S : List element_of.Insert) → refers S (deletes_from a n target count) ≡ all_inserted S target count
refers-deletes_from a n target zero S = refl
refers-deletes_from a n target (suc count) S =
    ap (λ b. is_inserted S target && b) (refers-deletes_from a (n + 1) (id_of target.actor (target.counter + 1)) count S)

refers-record : (a : Actor) (n : ℕ) (r : Record) (S : List element_of.Insert) → IsRecord r → refers S (ops_in a n r) ≡ is_there S r
refers-record a n (Insert after text) S h = refers-run a n after text S h.2
refers-record a n (Delete target) S h = alone (is_inserted S target) where
  alone : (b : Bool) → (b && true) ≡ b
  alone b = grind arith
refers-record a n (DeleteRun first count) S h = refers-deletes_from a n first count S

all_inserted-same : (S T : List element_of.Insert) (target : OpId) (count : ℕ) → SameIds S T → all_inserted S target count ≡ all_inserted T target count
all_inserted-same S T target zero f = refl
all_inserted-same S T target (suc count) f =
    let next = id_of target.actor (target.counter + 1) in
    ap (λ b. b && all_inserted S next count) (f target) ∙ ap (λ b. is_inserted T target && b) (all_inserted-same S T next count f)

is_there-same : (S T : List element_of.Insert) (r : Record) → SameIds S T → is_there S r ≡ is_there T r
is_there-same S T (Insert after text) f = is_reference-same S T after f
is_there-same S T (Delete target) f = f target
is_there-same S T (DeleteRun first count) f = all_inserted-same S T first count f

-- references, record by record
refers-records : (a : Actor) (n : ℕ) (S T : List element_of.Insert) (before rs : List Record)
    → AllByRecursion IsRecord rs → SameIds T (inserts_in (ops_from a n before) ++ S) → refers T (ops_from a (n + count_of before) rs) ≡ all_there a n S before rs
refers-records a n S T before [] h f = refl
refers-records a n S T before (r ∷ rs) h f =
    let m = n + count_of before in
    let step : n + count_of before + count_in r ≡ n + count_of (before ++ r ∷ []) = counted before in
    let next : SameIds (grown T (ops_in a m r)) (inserts_in (ops_from a n (before ++ r ∷ [])) ++ S) =
    λ id.
    grown-ids T (ops_in a m r) id
    ∙ ap (λ b. is_inserted (inserts_in (ops_in a m r)) id || b) (f id ∙ is_inserted-append (inserts_in (ops_from a n before)) S id)
    ∙ turn (is_inserted (inserts_in (ops_in a m r)) id) (is_inserted (inserts_in (ops_from a n before)) id) (is_inserted S id)
    ∙ ap (λ b. b || is_inserted S id) (sym (is_inserted-append (inserts_in (ops_from a n before)) (inserts_in (ops_in a m r)) id))
    ∙ ap (λ l. is_inserted l id || is_inserted S id) (sym (inserts_in-append (ops_from a n before) (ops_in a m r)))
    ∙ ap (λ l. is_inserted (inserts_in (ops_from a n before ++ l)) id || is_inserted S id) (sym (one_record m r))
    ∙ ap (λ l. is_inserted (inserts_in l) id || is_inserted S id) (sym (ops_from-append a n before (r ∷ [])))
    ∙ sym (is_inserted-append (inserts_in (ops_from a n (before ++ r ∷ []))) S id) in
    refers-append T (ops_in a m r) (ops_from a (m + count_in r) rs)
    ∙ ap (λ b. b && refers (grown T (ops_in a m r)) (ops_from a (m + count_in r) rs)) (refers-record a m r T h.0 ∙ is_there-same T (inserts_in (ops_from a n before) ++ S) r f)
    ∙ ap (λ k. is_there (inserts_in (ops_from a n before) ++ S) r && refers (grown T (ops_in a m r)) (ops_from a k rs)) step
    ∙ ap (λ b. is_there (inserts_in (ops_from a n before) ++ S) r && b) (refers-records a n S (grown T (ops_in a m r)) (before ++ r ∷ []) rs h.1 next)
  where
    turn : (a b c : Bool) → (a || (b || c)) ≡ ((b || a) || c)
    turn a b c = grind arith

    counted : (before : List Record) → n + count_of before + count_in r ≡ n + count_of (before ++ r ∷ [])
    counted [] = omega arith
    counted (b ∷ before) = let e = counted before in omega arith

    one_record : (m : ℕ) (r : Record) → ops_from a m (r ∷ []) ≡ ops_in a m r
    one_record m r = append-nil (ops_in a m r)

-- the references of a change, record by record
pub refers-all_there : (S : List element_of.Insert) (c : ChangeParts) → IsChange c → refers S (ops_of c) ≡ all_there c.actor c.start S [] c.records
unfolding ops_of
refers-all_there S c h =
    let e : c.start ≡ c.start + 0 = omega arith in
    ap (λ n. refers S (ops_from c.actor n c.records)) e ∙ refers-records c.actor c.start S S [] c.records h.records (λ id. refl)

-- ---- an identifier in a change

pub inserts_id-is : (c : ChangeParts) (id : OpId) → is_inserted (inserts_in (ops_of c)) id ≡ (same_actor c.actor id.actor && covers c.start c.records id.counter)
unfolding ops_of
inserts_id-is c id = is_inserted-covers c.actor c.start c.records id

pub covers-low : (n : ℕ) (rs : List Record) (k : ℕ) → k < n → covers n rs k ≡ false
covers-low n [] k h = refl
covers-low n (Insert after text ∷ rs) k h = let rest = covers-low (n + length text) rs k (omega arith) in grind (arith, nat_tests)
covers-low n (Delete target ∷ rs) k h = covers-low (n + 1) rs k (omega arith)
covers-low n (DeleteRun first count ∷ rs) k h = covers-low (n + count) rs k (omega arith)

covers-high : (n : ℕ) (rs : List Record) (k : ℕ) → n + count_of rs ≤ k → covers n rs k ≡ false
covers-high n [] k h = refl
covers-high n (Insert after text ∷ rs) k h =
    let within : n + length text ≤ k = omega arith in
    let rest = covers-high (n + length text) rs k (omega arith) in grind (arith, nat_tests)
covers-high n (Delete target ∷ rs) k h = covers-high (n + 1) rs k (omega arith)
covers-high n (DeleteRun first count ∷ rs) k h = covers-high (n + count) rs k (omega arith)

covers-all : (n : ℕ) (rs : List Record) (k : ℕ) → only_inserts rs ≡ true → n ≤ k → k < n + count_of rs → covers n rs k ≡ true
covers-all n [] k e le lt = absurd (omega arith)
covers-all n (Delete target ∷ rs) k e le lt = cc
covers-all n (DeleteRun first count ∷ rs) k e le lt = cc
covers-all n (Insert after text ∷ rs) k e le lt =
    elim (truth (nat_lt k (n + length text))) [
      | inl here ↦ grind (arith, nat_tests)
      | inr later ↦
          let past : n + length text ≤ k = grind (arith, nat_tests) in
          let rest : covers (n + length text) rs k ≡ true = covers-all (n + length text) rs k e past (omega arith) in
          or_right (nat_le n k && nat_lt k (n + length text)) (covers (n + length text) rs k) rest
    ]

pub inserts_id-other : (c : ChangeParts) (id : OpId) → same_actor c.actor id.actor ≡ false → false ≡ is_inserted (inserts_in (ops_of c)) id
inserts_id-other c id e = sym (inserts_id-is c id ∙ ap (λ b. b && covers c.start c.records id.counter) e)

nothing_covered : (s : Bool) → (s && false) ≡ false
nothing_covered s = grind arith

pub inserts_id-low : (c : ChangeParts) (id : OpId) → id.counter < c.start → false ≡ is_inserted (inserts_in (ops_of c)) id
inserts_id-low c id h = sym (inserts_id-is c id ∙ ap (λ b. same_actor c.actor id.actor && b) (covers-low c.start c.records id.counter h) ∙ nothing_covered (same_actor c.actor id.actor))

pub inserts_id-high : (c : ChangeParts) (id : OpId) (end : ℕ) → end ≡ c.start + op_count c → end ≤ id.counter → false ≡ is_inserted (inserts_in (ops_of c)) id
unfolding op_count
inserts_id-high c id end e h =
    let past : c.start + count_of c.records ≤ id.counter = omega (arith, e) in
    sym (inserts_id-is c id ∙ ap (λ b. same_actor c.actor id.actor && b) (covers-high c.start c.records id.counter past) ∙ nothing_covered (same_actor c.actor id.actor))

pub inserts_id-at : (c : ChangeParts) (id : OpId) (b : Bool) → same_actor c.actor id.actor ≡ true → b ≡ covers c.start c.records id.counter → b ≡ is_inserted (inserts_in (ops_of c)) id
inserts_id-at c id b e f = f ∙ sym (inserts_id-is c id ∙ ap (λ s. s && covers c.start c.records id.counter) e)

-- ---- the steps of the test of references

known_is : (a : Actor) (n : ℕ) (before : List Record) (S : List element_of.Insert) (id : OpId)
    → is_inserted (inserts_in (ops_from a n before) ++ S) id ≡ ((same_actor a id.actor && covers n before id.counter) || is_inserted S id)
known_is a n before S id =
    is_inserted-append (inserts_in (ops_from a n before)) S id ∙ ap (λ b. b || is_inserted S id) (is_inserted-covers a n before id)

pub known_other : (a : Actor) (n : ℕ) (before : List Record) (S : List element_of.Insert) (id : OpId) (b : Bool)
    → same_actor a id.actor ≡ false → b ≡ is_inserted S id → b ≡ is_inserted (inserts_in (ops_from a n before) ++ S) id
known_other a n before S id b e f = f ∙ sym (known_is a n before S id ∙ ap (λ s. (s && covers n before id.counter) || is_inserted S id) e)

pub known_covered : (a : Actor) (n : ℕ) (before : List Record) (S : List element_of.Insert) (id : OpId)
    → same_actor a id.actor ≡ true → covers n before id.counter ≡ true → true ≡ is_inserted (inserts_in (ops_from a n before) ++ S) id
known_covered a n before S id e f =
    sym (known_is a n before S id ∙ ap (λ s. (s && covers n before id.counter) || is_inserted S id) e ∙ ap (λ s. s || is_inserted S id) f)

pub known_uncovered : (a : Actor) (n : ℕ) (before : List Record) (S : List element_of.Insert) (id : OpId) (b : Bool)
    → same_actor a id.actor ≡ true → covers n before id.counter ≡ false → b ≡ is_inserted S id → b ≡ is_inserted (inserts_in (ops_from a n before) ++ S) id
known_uncovered a n before S id b e f g =
    g ∙ sym (known_is a n before S id ∙ ap (λ s. (s && covers n before id.counter) || is_inserted S id) e ∙ ap (λ s. s || is_inserted S id) f)

pub count_of-take : (rs : List Record) (i : ℕ) → count_of (take i rs) ≤ count_of rs
count_of-take [] zero = omega arith
count_of-take [] (suc i) = omega arith
count_of-take (r ∷ rs) zero = omega arith
count_of-take (r ∷ rs) (suc i) = let h = count_of-take rs i in omega arith

pub all_there-step : (a : Actor) (n : ℕ) (S : List element_of.Insert) (rs : List Record) (i : ℕ) (r : Record) → i < length rs → r ≡ get_or rs i r
    → all_there a n S (take i rs) (drop i rs) ≡ (is_there (inserts_in (ops_from a n (take i rs)) ++ S) r && all_there a n S (take (i + 1) rs) (drop (i + 1) rs))
all_there-step a n S rs i r small e =
    ap (all_there a n S (take i rs)) (drop-cons rs i r small)
    ∙ ap (λ x. all_there a n S (take i rs) (x ∷ drop (suc i) rs)) (sym e)
    ∙ ap (λ l. is_there (inserts_in (ops_from a n (take i rs)) ++ S) r && all_there a n S l (drop (suc i) rs)) (sym (take_more rs i r small ∙ ap (λ x. take i rs ++ x ∷ []) (sym e)))
    ∙ ap (λ k. is_there (inserts_in (ops_from a n (take i rs)) ++ S) r && all_there a n S (take (i + 1) rs) (drop k rs)) (sym (add-one i))

pub all_there-stop : (a : Actor) (n : ℕ) (S : List element_of.Insert) (rs : List Record) (i : ℕ) (r : Record) → i < length rs → r ≡ get_or rs i r
    → is_there (inserts_in (ops_from a n (take i rs)) ++ S) r ≡ false → all_there a n S (take i rs) (drop i rs) ≡ false
all_there-stop a n S rs i r small e f = all_there-step a n S rs i r small e ∙ ap (λ b. b && all_there a n S (take (i + 1) rs) (drop (i + 1) rs)) f

pub all_there-on : (a : Actor) (n : ℕ) (S : List element_of.Insert) (rs : List Record) (i : ℕ) (r : Record) → i < length rs → r ≡ get_or rs i r
    → is_there (inserts_in (ops_from a n (take i rs)) ++ S) r ≡ true → all_there a n S (take (i + 1) rs) (drop (i + 1) rs) ≡ all_there a n S (take i rs) (drop i rs)
all_there-on a n S rs i r small e f = sym (all_there-step a n S rs i r small e ∙ ap (λ b. b && all_there a n S (take (i + 1) rs) (drop (i + 1) rs)) f)

pub all_there-end : (a : Actor) (n : ℕ) (S : List element_of.Insert) (rs : List Record) (i : ℕ) → length rs ≤ i → all_there a n S (take i rs) (drop i rs) ≡ true
all_there-end a n S rs i h = ap (all_there a n S (take i rs)) (drop_all i rs h)

-- ---- the targets of a run, one after another

id_next : (first : OpId) (i : ℕ) → id_of first.actor (first.counter + i + 1) ≡ id_of first.actor (first.counter + (i + 1))
id_next first i = let e : first.counter + i + 1 ≡ first.counter + (i + 1) = omega arith in ap (id_of first.actor) e

-- the targets from the place i on: the one there, and those after it
pub all_inserted-step : (S : List element_of.Insert) (first : OpId) (count i : ℕ) → i < count
    → all_inserted S (id_of first.actor (first.counter + i)) (count - i) ≡ (is_inserted S (id_of first.actor (first.counter + i)) && all_inserted S (id_of first.actor (first.counter + (i + 1))) (count - (i + 1)))
all_inserted-step S first count i lt =
    let left : count - i ≡ suc (count - (i + 1)) = omega arith in
    ap (all_inserted S (id_of first.actor (first.counter + i))) left
    ∙ ap (λ id. is_inserted S (id_of first.actor (first.counter + i)) && all_inserted S id (count - (i + 1))) (id_next first i)

pub all_inserted-first : (S : List element_of.Insert) (first : OpId) (count : ℕ) → all_inserted S (id_of first.actor (first.counter + 0)) (count - 0) ≡ all_inserted S first count
all_inserted-first S first count =
    let at : first.counter + 0 ≡ first.counter = omega arith in
    let all : count - 0 ≡ count = omega arith in
    ap (λ n. all_inserted S (id_of first.actor n) (count - 0)) at ∙ ap (all_inserted S first) all

pub all_inserted-end : (S : List element_of.Insert) (first : OpId) (count i : ℕ) → count ≤ i → all_inserted S (id_of first.actor (first.counter + i)) (count - i) ≡ true
all_inserted-end S first count i le =
    let none : count - i ≡ 0 = omega arith in
    ap (all_inserted S (id_of first.actor (first.counter + i))) none

-- a record of a change is within the limits
pub record_at : (rs : List Record) (i : ℕ) (r : Record) → AllByRecursion IsRecord rs → i < length rs → r ≡ get_or rs i r → IsRecord r
record_at [] i r h lt e = absurd (omega arith)
record_at (x ∷ rs) zero r h lt e = subst IsRecord (sym e) h.0
record_at (x ∷ rs) (suc i) r h lt e = record_at rs i r h.1 (omega arith) e

-- a change without deletes inserts at each of its counters
pub inserts_id-all : (c : ChangeParts) (id : OpId) (end : ℕ) → end ≡ c.start + op_count c → same_actor c.actor id.actor ≡ true → only_inserts c.records ≡ true
    → c.start ≤ id.counter → id.counter < end → true ≡ is_inserted (inserts_in (ops_of c)) id
unfolding op_count
inserts_id-all c id end e one all low high =
    let within : id.counter < c.start + count_of c.records = omega (arith, e) in
    inserts_id-at c id true one (sym (covers-all c.start c.records id.counter all low within))
