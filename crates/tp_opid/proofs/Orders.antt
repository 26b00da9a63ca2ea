-- The laws of the opaque orders: total, exact, transitive. Nothing above this crate needs to know more of them.
use Rattle.std.proofs.Common.{◌≡◌, ℕ, ◌<◌, Bool, true, false, List, refl, sym, ap, ◌⊎◌, inl, inr, arith}
use Rattle.std.specs.Ordering.{nat_cmp, ordering_then, is_eq, ordering_reverse}
use Rattle.std.specs.declared.cmp.Ordering.{Ordering}
use Rattle.std.specs.declared.cmp.Ordering.TheVariants.{Less, Equal, Greater}
use Rattle.std.specs.Cmp.{IsTotalOrder}
use Rattle.std.specs.Cmp.Lexicographic.{slice_cmp}
use Rattle.std.proofs.lemmas.Cmp.{nat_cmp_total, nat_list_cmp_total, on_total, then_total, tied_itself}
use Rattle.std.proofs.lemmas.Map.Lookups.{CmpEqualImpliesEq, exact_bytes, exact_unsigned, exact_pairs}
use Rattle.std.proofs.lemmas.Bool.Decides.{nat_tests}
use Rattle.tp_opid.specs.declared.actor.Actor.{Actor}
use Rattle.tp_opid.specs.declared.hash.Hash.{Hash}
use Rattle.tp_opid.specs.declared.doc_id.DocId.{DocId}
use Rattle.tp_opid.specs.declared.op_id.OpId.{OpId}
use Rattle.tp_opid.specs.declared.op_id.Place.{Place}
use Rattle.tp_opid.specs.declared.op_id.Place.TheVariants.{Start, After}
use Rattle.tp_opid.specs.Order.{actor_cmp, hash_cmp, doc_id_cmp, id_cmp, Below}
use Rattle.tp_opid.specs.Same.{same_actor, same_hash, same_doc, id_eq, place_eq}

pub actor_total : IsTotalOrder actor_cmp
unfolding actor_cmp
actor_total = on_total (λ (a : Actor). a.0) nat_list_cmp_total

pub hash_total : IsTotalOrder hash_cmp
unfolding hash_cmp
hash_total = on_total (λ (h : Hash). h.0) nat_list_cmp_total

pub doc_id_total : IsTotalOrder doc_id_cmp
unfolding doc_id_cmp
doc_id_total = on_total (λ (d : DocId). d.0) nat_list_cmp_total

pub id_total : IsTotalOrder id_cmp
unfolding id_cmp
id_total = then_total (on_total (λ (i : OpId). i.counter) nat_cmp_total) (on_total (λ (i : OpId). i.actor.0) nat_list_cmp_total)

pub actor_exact : CmpEqualImpliesEq actor_cmp
unfolding actor_cmp
actor_exact a b e = ap (λ (bytes : List ℕ). let x : Actor = record { 0 = bytes } in x) (exact_bytes a.0 b.0 e)

pub hash_exact : CmpEqualImpliesEq hash_cmp
unfolding hash_cmp
hash_exact a b e = ap (λ (bytes : List ℕ). let x : Hash = record { 0 = bytes } in x) (exact_bytes a.0 b.0 e)

pub doc_id_exact : CmpEqualImpliesEq doc_id_cmp
unfolding doc_id_cmp
doc_id_exact a b e = ap (λ (bytes : List ℕ). let x : DocId = record { 0 = bytes } in x) (exact_bytes a.0 b.0 e)

pub id_exact : CmpEqualImpliesEq id_cmp
unfolding id_cmp
id_exact a b e =
    ap (λ (p : ℕ × List ℕ). let x : OpId = record { counter = p.0; actor = record { 0 = p.1 } } in x)
    (exact_pairs nat_cmp (slice_cmp nat_cmp) exact_unsigned exact_bytes (a.counter, a.actor.0) (b.counter, b.actor.0) e)

-- ---- what a total and exact order says of a test for equality

equal_by : (o : Ordering) → is_eq o ≡ true → o ≡ Equal
equal_by Less e = cc
equal_by Equal e = refl
equal_by Greater e = cc

-- what the test finds equal is one
same_by : {X : Type 0} (cmp : X → X → Ordering) → CmpEqualImpliesEq cmp → (a b : X) → is_eq (cmp a b) ≡ true → a ≡ b
same_by cmp exact a b e = exact a b (equal_by (cmp a b) e)

-- one is found equal
itself_by : {X : Type 0} (cmp : X → X → Ordering) → IsTotalOrder cmp → (a : X) → is_eq (cmp a a) ≡ true
itself_by cmp total a = ap is_eq (tied_itself total a)

pub same_actor-same : (a b : Actor) → same_actor a b ≡ true → a ≡ b
unfolding same_actor
same_actor-same a b e = same_by actor_cmp actor_exact a b e

pub same_actor-itself : (a : Actor) → same_actor a a ≡ true
unfolding same_actor
same_actor-itself a = itself_by actor_cmp actor_total a

pub same_hash-same : (a b : Hash) → same_hash a b ≡ true → a ≡ b
unfolding same_hash
same_hash-same a b e = same_by hash_cmp hash_exact a b e

pub same_hash-itself : (a : Hash) → same_hash a a ≡ true
unfolding same_hash
same_hash-itself a = itself_by hash_cmp hash_total a

pub same_doc-same : (a b : DocId) → same_doc a b ≡ true → a ≡ b
unfolding same_doc
same_doc-same a b e = same_by doc_id_cmp doc_id_exact a b e

pub same_doc-itself : (a : DocId) → same_doc a a ≡ true
unfolding same_doc
same_doc-itself a = itself_by doc_id_cmp doc_id_total a

pub id_eq-same : (a b : OpId) → id_eq a b ≡ true → a ≡ b
unfolding id_eq
id_eq-same a b e = same_by id_cmp id_exact a b e

pub id_eq-itself : (a : OpId) → id_eq a a ≡ true
unfolding id_eq
id_eq-itself a = itself_by id_cmp id_total a

pub same_actor-tied : (a b : Actor) → actor_cmp a b ≡ Equal → same_actor a b ≡ true
unfolding same_actor
same_actor-tied a b e = ap is_eq e

-- what the test tells apart is not one
apart_by : {X : Type 0} (test : X → X → Bool) → ((a : X) → test a a ≡ true) → (a b : X) → test a b ≡ false → a ≡ b → ⊥
apart_by test itself a b apart e = let h : test a a ≡ true = itself a in let k : test a a ≡ test a b = ap (test a) e in cc

pub same_actor-apart : (a b : Actor) → same_actor a b ≡ false → a ≡ b → ⊥
same_actor-apart = apart_by same_actor same_actor-itself

pub same_doc-apart : (a b : DocId) → same_doc a b ≡ false → a ≡ b → ⊥
same_doc-apart = apart_by same_doc same_doc-itself

pub id_eq-apart : (a b : OpId) → id_eq a b ≡ false → a ≡ b → ⊥
id_eq-apart = apart_by id_eq id_eq-itself

pub place_eq-same : (p q : Place) → place_eq p q ≡ true → p ≡ q
place_eq-same Start Start e = refl
place_eq-same Start (After b) e = cc
place_eq-same (After a) Start e = cc
place_eq-same (After a) (After b) e = ap After (id_eq-same a b e)

pub place_eq-itself : (p : Place) → place_eq p p ≡ true
place_eq-itself Start = refl
place_eq-itself (After a) = id_eq-itself a

-- ---- the other way round

pub id_eq-flip : (a b : OpId) → id_eq a b ≡ false → id_eq b a ≡ false
id_eq-flip a b e =
    elim (id_eq b a) as (λ v. id_eq b a ≡ v → v ≡ false) [ true ↦ λ h. absurd (id_eq-apart a b e (sym (id_eq-same b a h))) | false ↦ λ h. refl ] refl

pub same_actor-flip : (a b : Actor) → same_actor a b ≡ true → same_actor b a ≡ true
same_actor-flip a b e = rw (same_actor-same a b e) (same_actor-itself b)

-- ---- the order of identifiers

nat_cmp_less : (m n : ℕ) → m < n → nat_cmp m n ≡ Less
nat_cmp_less m n lt = grind (arith, nat_tests)

pub Below-irreflexive : (a : OpId) → Below a a → ⊥
unfolding Below
Below-irreflexive a h = let e : id_cmp a a ≡ Equal = tied_itself id_total a in cc

pub Below-trans : (a b c : OpId) → Below a b → Below b c → Below a c
unfolding Below
Below-trans a b c h k = id_total.trans a b c h k

-- of two identifiers one is below the other, or they are one
pub Below-cases : (a b : OpId) → Below a b ⊎ ((a ≡ b) ⊎ Below b a)
unfolding Below
Below-cases a b =
    let back : id_cmp b a ≡ ordering_reverse (id_cmp a b) = id_total.antisymm b a in
    elim (id_cmp a b) as (λ o. id_cmp a b ≡ o → id_cmp b a ≡ ordering_reverse o → (id_cmp a b ≡ Less) ⊎ ((a ≡ b) ⊎ (id_cmp b a ≡ Less))) [
      | Less ↦ λ e r. inl e
      | Equal ↦ λ e r. inr (inl (id_exact a b e))
      | Greater ↦ λ e r. inr (inr r)
    ] refl back

pub Below-asym : (a b : OpId) → Below a b → Below b a → ⊥
Below-asym a b h k = Below-irreflexive a (Below-trans a b a h k)

-- one with a smaller counter is below, whoever the actors are
pub id_cmp-counter : (a b : OpId) → a.counter < b.counter → id_cmp a b ≡ Less
unfolding id_cmp
id_cmp-counter a b lt =
    let first : nat_cmp a.counter b.counter ≡ Less = nat_cmp_less a.counter b.counter lt in
    ap (λ o. ordering_then o (slice_cmp nat_cmp a.actor.0 b.actor.0)) first

pub Below-counter : (a b : OpId) → a.counter < b.counter → Below a b
unfolding Below
Below-counter a b lt = id_cmp-counter a b lt
