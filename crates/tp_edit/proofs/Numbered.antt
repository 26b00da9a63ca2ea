-- The identifiers of a change's operations, and why they may be applied where its references are there.
use Rattle.std.proofs.Common.{◌≡◌, ℕ, ◌+◌, ◌<◌, ◌≤◌, Bool, true, false, ◌&&◌, List, [], ◌∷◌, ◌++◌, length, ◌⊎◌, inl, inr, refl, sym, ap, ◌∙◌, subst, arith}
use Rattle.std.proofs.lemmas.Bool.{and_parts, cases_lt}
use Rattle.tp_list.specs.Members.{In, AllIn}
use Rattle.tp_list.proofs.Members.{In-left, In-right, In-push}
use Rattle.tp_list.proofs.Tests.{same_test}
use Rattle.tp_opid.specs.declared.actor.Actor.{Actor}
use Rattle.tp_opid.specs.declared.op_id.OpId.{OpId}
use Rattle.tp_opid.specs.declared.op_id.Place.{Place}
use Rattle.tp_opid.specs.declared.op_id.Place.TheVariants.{Start, After}
use Rattle.tp_opid.specs.Insert.{Insert}
use Rattle.tp_opid.specs.Order.{Below}
use Rattle.tp_opid.specs.Same.{id_eq}
use Rattle.tp_opid.specs.Tree.{IsThere, IsReferenceBelow, IsAboveAll}
use Rattle.tp_opid.proofs.Orders.{id_eq-same, Below-counter, Below-trans, Below-asym, Below-irreflexive}
use Rattle.tp_opid.proofs.Trees.{IsThere-member}
use Rattle.tp_change.specs.declared.op.Op.{Op}
use Rattle.tp_change.specs.declared.op.Op.TheVariants as op_of
use Rattle.tp_change.specs.Operations.{id_of}
use Rattle.tp_change.specs.Elements.{element, inserts_in, is_inserted, is_reference, refers}
use Rattle.tp_change.proofs.ElementLaws.{is_inserted-In, is_inserted-member}
use Rattle.tp_change.proofs.Numbered.{Numbered}
use Rattle.tp_edit.specs.Applying.{CanApply}

-- ---- identifiers below the next one

-- No element has an identifier of the actor from the counter n on.
abbrev pub IsFresh : List Insert → Actor → ℕ → Type 0
IsFresh S a n = (e : Insert) → In e S → (k : ℕ) → n ≤ k → id_eq e.id (id_of a k) ≡ false

Below-next : (a : Actor) (m n : ℕ) → m < n → Below (id_of a m) (id_of a n)
Below-next a m n lt = Below-counter (id_of a m) (id_of a n) lt

not_below_down : (a : Actor) (k n : ℕ) → n ≤ k → Below (id_of a k) (id_of a n) → ⊥
not_below_down a k n le h = elim (le_cases n k le) [
  | inl lt ↦ Below-asym (id_of a k) (id_of a n) h (Below-next a n k lt)
  | inr e ↦ Below-irreflexive (id_of a n) (subst (λ m. Below (id_of a m) (id_of a n)) (sym e) h)
]
  where
    le_cases : (m n : ℕ) → m ≤ n → (m < n) ⊎ (m ≡ n)
    le_cases m n le = elim (cases_lt m n) [ inl lt ↦ inl lt | inr ge ↦ inr (omega arith) ]

apart : (x y : OpId) → (x ≡ y → ⊥) → id_eq x y ≡ false
apart x y h = elim (id_eq x y) as (λ b. id_eq x y ≡ b → b ≡ false) [ true ↦ λ e. absurd (h (id_eq-same x y e)) | false ↦ λ e. refl ] refl

-- what is below an actor's next identifier has none of the actor's from there on
pub IsFresh-under : (S : List Insert) (a : Actor) (n : ℕ) → IsAboveAll S (id_of a n) → IsFresh S a n
IsFresh-under S a n under e there k le =
    apart e.id (id_of a k) (λ same. not_below_down a k n le (subst (λ x. Below x (id_of a n)) same (under e there)))

-- ---- references that are there

-- the test of a sequence is the test of the definitions
pub is_inserted-test : (S : List Insert) (x : OpId) (r : Bool) → (r ≡ true → IsThere S x) × (IsThere S x → r ≡ true) → r ≡ is_inserted S x
is_inserted-test S x r h = same_test r (is_inserted S x)
    (λ e. let there = h.0 e in is_inserted-member S (record { id = x; after = there.0; ch = there.1.0 }) there.1.1)
    (λ e. let found = is_inserted-In S x e in h.1 (subst (IsThere S) found.2 (IsThere-member S found.0 found.1)))

pub and_last : (b : Bool) → b ≡ (b && true)
and_last true = refl
and_last false = refl

there-of : (P S : List Insert) (x : OpId) → AllIn P S → is_inserted P x ≡ true → IsThere S x
there-of P S x sub h = let found = is_inserted-In P x h in subst (IsThere S) found.2 (IsThere-member S found.0 (sub found.0 found.1))

place_below : (P S : List Insert) (x : OpId) (p : Place) → AllIn P S → IsAboveAll P x → is_reference P p ≡ true → IsReferenceBelow S x p
place_below P S x Start sub under h = tt
place_below P S x (After r) sub under h =
    let found = is_inserted-In P r h in
    (there-of P S r sub h, subst (λ y. Below y x) found.2 (under found.0 found.1))

-- Operations with the actor's next identifiers may be applied where their references are among P, which is part of S
-- and below the next identifier, and S has none of the actor's from there on.
pub CanApply-refers : (ops : List Op) (P S : List Insert) (a : Actor) (n : ℕ) → Numbered a n ops → AllIn P S → IsAboveAll P (id_of a n) → IsFresh S a n → refers P ops ≡ true → CanApply S ops
CanApply-refers [] P S a n num sub under fresh h = tt
CanApply-refers (op_of.Insert id after ch ∷ ops) P S a n num sub under fresh h =
    let parts = and_parts (is_reference P after) (refers (element id after ch ∷ P) ops) h in
    let e = element id after ch in
    let own : id ≡ id_of a n = num.0 in (
      record {
        new = λ y there. subst (λ x. id_eq y.id x ≡ false) (sym own) (fresh y there n (omega arith));
        place = subst (λ x. IsReferenceBelow S x after) (sym own) (place_below P S (id_of a n) after sub under parts.0);
      },
      CanApply-refers ops (e ∷ P) (S ++ e ∷ []) a (n + 1) num.1
          (λ y there. elim there [ inl same ↦ In-right y S (e ∷ []) (inl same) | inr old ↦ In-left y S (e ∷ []) (sub y old) ])
          (λ y there. elim there [
            | inl same ↦ subst (λ z. Below z (id_of a (n + 1))) (sym own ∙ sym (ap (λ (z : Insert). z.id) same)) (Below-next a n (n + 1) (omega arith))
            | inr old ↦ Below-trans y.id (id_of a n) (id_of a (n + 1)) (under y old) (Below-next a n (n + 1) (omega arith))
          ])
          (λ y there k le. elim (In-push y S e there) [
            | inl old ↦ fresh y old k (omega arith)
            | inr same ↦ subst (λ z. id_eq z (id_of a k) ≡ false) (sym own ∙ sym (ap (λ (z : Insert). z.id) same))
                (apart (id_of a n) (id_of a k) (λ one. let counters : n ≡ k = ap (λ (z : OpId). z.counter) one in absurd (omega arith)))
          ])
          parts.1,
    )
CanApply-refers (op_of.Delete id target ∷ ops) P S a n num sub under fresh h =
    let parts = and_parts (is_inserted P target) (refers P ops) h in (
      there-of P S target sub parts.0,
      CanApply-refers ops P S a (n + 1) num.1 sub
          (λ y there. Below-trans y.id (id_of a n) (id_of a (n + 1)) (under y there) (Below-next a n (n + 1) (omega arith)))
          (λ y there k le. fresh y there k (omega arith))
          parts.1,
    )

-- the inserts of operations are below every identifier with the counter that comes after them
pub IsAboveAll-ops : (ops : List Op) (a b : Actor) (n : ℕ) → Numbered a n ops → IsAboveAll (inserts_in ops) (id_of b (n + length ops))
IsAboveAll-ops [] a b n num e there = absurd there
IsAboveAll-ops (op_of.Insert id after ch ∷ ops) a b n num e (inl same) =
    subst (λ x. Below x (id_of b (n + length (op_of.Insert id after ch ∷ ops)))) (sym num.0 ∙ sym (ap (λ (z : Insert). z.id) same)) (Below-counter (id_of a n) (id_of b (n + length (op_of.Insert id after ch ∷ ops))) (omega arith))
IsAboveAll-ops (op_of.Insert id after ch ∷ ops) a b n num e (inr old) =
    subst (λ m. Below e.id (id_of b m)) (let s : (n + 1) + length ops ≡ n + length (op_of.Insert id after ch ∷ ops) = omega arith in s) (IsAboveAll-ops ops a b (n + 1) num.1 e old)
IsAboveAll-ops (op_of.Delete id target ∷ ops) a b n num e there =
    subst (λ m. Below e.id (id_of b m)) (let s : (n + 1) + length ops ≡ n + length (op_of.Delete id target ∷ ops) = omega arith in s) (IsAboveAll-ops ops a b (n + 1) num.1 e there)

-- what is below an identifier is below each one with a greater counter
pub IsAboveAll-up : (S : List Insert) (a : Actor) (m n : ℕ) → m ≤ n → IsAboveAll S (id_of a m) → IsAboveAll S (id_of a n)
IsAboveAll-up S a m n le under e there = elim (cases_lt m n) [
  | inl lt ↦ Below-trans e.id (id_of a m) (id_of a n) (under e there) (Below-next a m n lt)
  | inr ge ↦ subst (λ k. Below e.id (id_of a k)) (let s : m ≡ n = omega arith in s) (under e there)
]
