-- Laws of the elements that operations and changes insert and delete, of references, and of counters.
use Rattle.std.proofs.Common.{◌≡◌, ℕ, ◌+◌, inl, inr, List, [], ◌∷◌, ◌++◌, Bool, true, false, ◌||◌, ◌&&◌, refl, sym, ap, ◌∙◌, arith, append_assoc, append-nil, subst, ◌≤◌}
use Rattle.std.proofs.lemmas.Bool.Decides.{nat_tests}
use Rattle.tp_list.specs.Members.{In, AllIn, SameMembers}
use Rattle.tp_list.proofs.Tests.{or_cases, or_left, or_right, same_test}
use Rattle.tp_list.proofs.Members.{In-left, In-right, In-append}
use Rattle.tp_opid.specs.declared.actor.Actor.{Actor}
use Rattle.tp_opid.specs.declared.op_id.OpId.{OpId}
use Rattle.tp_opid.specs.declared.op_id.Place.{Place}
use Rattle.tp_opid.specs.declared.op_id.Place.TheVariants.{Start, After}
use Rattle.tp_opid.specs.Insert as element_of
use Rattle.tp_opid.specs.Same.{id_eq}
use Rattle.tp_opid.proofs.Orders.{id_eq-same, id_eq-itself}
use Rattle.tp_change.specs.declared.op.Op.{Op}
use Rattle.tp_change.specs.declared.op.Op.TheVariants as op_of
use Rattle.tp_layout.specs.declared.record.Record.{Record}
use Rattle.tp_layout.specs.declared.parts.ChangeParts.{ChangeParts}
use Rattle.tp_change.specs.Operations.{ops_of, ops_from, ops_in, op_count}
use Rattle.tp_layout.specs.Counts.{count_in, count_of}
use Rattle.tp_change.specs.Elements.{element, inserts_in, inserts, is_inserted, is_reference, refers, deletes_in, deletes, later, next_counter}

pub inserts_in-append : (xs ys : List Op) → inserts_in (xs ++ ys) ≡ inserts_in xs ++ inserts_in ys
inserts_in-append [] ys = refl
inserts_in-append (op_of.Insert id after ch ∷ xs) ys = ap (λ l. element id after ch ∷ l) (inserts_in-append xs ys)
inserts_in-append (op_of.Delete id target ∷ xs) ys = inserts_in-append xs ys

pub is_inserted-append : (S T : List element_of.Insert) (id : OpId) → is_inserted (S ++ T) id ≡ (is_inserted S id || is_inserted T id)
is_inserted-append [] T id = refl
is_inserted-append (x ∷ S) T id =
    elim (id_eq x.id id) as (λ b. (b || is_inserted (S ++ T) id) ≡ ((b || is_inserted S id) || is_inserted T id)) [
      | true ↦ refl
      | false ↦ is_inserted-append S T id
    ]

pub inserts-append : (C D : List ChangeParts) → inserts (C ++ D) ≡ inserts C ++ inserts D
inserts-append [] D = refl
inserts-append (c ∷ C) D = ap (λ l. inserts_in (ops_of c) ++ l) (inserts-append C D) ∙ sym (append_assoc (inserts_in (ops_of c)) (inserts C) (inserts D))

pub ops_from-append : (a : Actor) (n : ℕ) (rs ss : List Record) → ops_from a n (rs ++ ss) ≡ ops_from a n rs ++ ops_from a (n + count_of rs) ss
ops_from-append a n [] ss = let e : n ≡ n + 0 = omega arith in ap (λ m. ops_from a m ss) e
ops_from-append a n (r ∷ rs) ss =
    let e : n + count_in r + count_of rs ≡ n + (count_in r + count_of rs) = omega arith in
    ap (λ l. ops_in a n r ++ l) (ops_from-append a (n + count_in r) rs ss)
    ∙ ap (λ m. ops_in a n r ++ (ops_from a (n + count_in r) rs ++ ops_from a m ss)) e
    ∙ sym (append_assoc (ops_in a n r) (ops_from a (n + count_in r) rs) (ops_from a (n + (count_in r + count_of rs)) ss))

pub is_inserted-In : (S : List element_of.Insert) (id : OpId) → is_inserted S id ≡ true → (x : element_of.Insert) × In x S × (x.id ≡ id)
is_inserted-In [] id e = cc
is_inserted-In (x ∷ S) id e =
    elim (or_cases (id_eq x.id id) (is_inserted S id) e) [
      | inl s ↦ (x, inl refl, id_eq-same x.id id s)
      | inr r ↦ let w = is_inserted-In S id r in (w.0, inr w.1, w.2)
    ]

pub In-is_inserted : (S : List element_of.Insert) (x : element_of.Insert) (id : OpId) → In x S → x.id ≡ id → is_inserted S id ≡ true
In-is_inserted [] x id i e = absurd i
In-is_inserted (y ∷ S) x id (inl s) e = or_left (id_eq y.id id) (is_inserted S id) (rw (← e, s) (id_eq-itself y.id))
In-is_inserted (y ∷ S) x id (inr i) e = or_right (id_eq y.id id) (is_inserted S id) (In-is_inserted S x id i e)

pub is_inserted-member : (S : List element_of.Insert) (x : element_of.Insert) → In x S → is_inserted S x.id ≡ true
is_inserted-member S x i = In-is_inserted S x x.id i refl

pub is_inserted-more : (S T : List element_of.Insert) (id : OpId) → AllIn S T → is_inserted S id ≡ true → is_inserted T id ≡ true
is_inserted-more S T id more e = let w = is_inserted-In S id e in In-is_inserted T w.0 id (more w.0 w.1) w.2

abbrev pub SameIds : List element_of.Insert → List element_of.Insert → Type 0
SameIds S T = (id : OpId) → is_inserted S id ≡ is_inserted T id

SameIds-more : (x : element_of.Insert) (S T : List element_of.Insert) → SameIds S T → SameIds (x ∷ S) (x ∷ T)
SameIds-more x S T f id = ap (λ b. id_eq x.id id || b) (f id)

-- lists with the same members insert the same identifiers
pub SameIds-members : (S T : List element_of.Insert) → SameMembers S T → SameIds S T
SameIds-members S T same id =
    same_test (is_inserted S id) (is_inserted T id) (is_inserted-more S T id same.there) (is_inserted-more T S id same.back)

pub is_reference-same : (S T : List element_of.Insert) (p : Place) → SameIds S T → is_reference S p ≡ is_reference T p
is_reference-same S T Start f = refl
is_reference-same S T (After id) f = f id

pub refers-same : (S T : List element_of.Insert) (ops : List Op) → SameIds S T → refers S ops ≡ refers T ops
refers-same S T [] f = refl
refers-same S T (op_of.Insert id after ch ∷ ops) f =
    ap (λ b. b && refers (element id after ch ∷ S) ops) (is_reference-same S T after f)
    ∙ ap (λ b. is_reference T after && b) (refers-same (element id after ch ∷ S) (element id after ch ∷ T) ops (SameIds-more (element id after ch) S T f))
refers-same S T (op_of.Delete id target ∷ ops) f =
    ap (λ b. b && refers S ops) (f target) ∙ ap (λ b. is_inserted T target && b) (refers-same S T ops f)

-- S with the inserts of the operations before it
pub grown : List element_of.Insert → List Op → List element_of.Insert
grown S [] = S
grown S (op_of.Insert id after ch ∷ ops) = grown (element id after ch ∷ S) ops
grown S (op_of.Delete id target ∷ ops) = grown S ops

and_assoc : (a b c : Bool) → (a && (b && c)) ≡ ((a && b) && c)
and_assoc true b c = refl
and_assoc false b c = refl

pub refers-append : (S : List element_of.Insert) (xs ys : List Op) → refers S (xs ++ ys) ≡ (refers S xs && refers (grown S xs) ys)
unfolding grown
refers-append S [] ys = refl
refers-append S (op_of.Insert id after ch ∷ xs) ys =
    ap (λ b. is_reference S after && b) (refers-append (element id after ch ∷ S) xs ys) ∙ and_assoc (is_reference S after) (refers (element id after ch ∷ S) xs) (refers (grown (element id after ch ∷ S) xs) ys)
refers-append S (op_of.Delete id target ∷ xs) ys =
    ap (λ b. is_inserted S target && b) (refers-append S xs ys) ∙ and_assoc (is_inserted S target) (refers S xs) (refers (grown S xs) ys)

pub grown-ids : (S : List element_of.Insert) (xs : List Op) (id : OpId) → is_inserted (grown S xs) id ≡ (is_inserted (inserts_in xs) id || is_inserted S id)
unfolding grown
grown-ids S [] id = refl
grown-ids S (op_of.Insert i after ch ∷ xs) id =
    grown-ids (element i after ch ∷ S) xs id ∙ turn (is_inserted (inserts_in xs) id) (id_eq i id) (is_inserted S id) where
      turn : (a b c : Bool) → (a || (b || c)) ≡ ((b || a) || c)
      turn true true c = refl
      turn true false c = refl
      turn false true c = refl
      turn false false c = refl
grown-ids S (op_of.Delete i target ∷ xs) id = grown-ids S xs id

pub deletes_in-append : (xs ys : List Op) → deletes_in (xs ++ ys) ≡ deletes_in xs ++ deletes_in ys
deletes_in-append [] ys = refl
deletes_in-append (op_of.Insert id after ch ∷ xs) ys = deletes_in-append xs ys
deletes_in-append (op_of.Delete id target ∷ xs) ys = ap (λ l. (target, id) ∷ l) (deletes_in-append xs ys)

-- the inserts and deletes of one change more
pub inserts-push : (C : List ChangeParts) (c : ChangeParts) → inserts (C ++ c ∷ []) ≡ inserts C ++ inserts_in (ops_of c)
inserts-push [] c = append-nil (inserts_in (ops_of c))
inserts-push (d ∷ C) c = ap (λ l. inserts_in (ops_of d) ++ l) (inserts-push C c) ∙ sym (append_assoc (inserts_in (ops_of d)) (inserts C) (inserts_in (ops_of c)))

pub deletes-push : (C : List ChangeParts) (c : ChangeParts) → deletes (C ++ c ∷ []) ≡ deletes C ++ deletes_in (ops_of c)
deletes-push [] c = append-nil (deletes_in (ops_of c))
deletes-push (d ∷ C) c = ap (λ l. deletes_in (ops_of d) ++ l) (deletes-push C c) ∙ sym (append_assoc (deletes_in (ops_of d)) (deletes C) (deletes_in (ops_of c)))

pub In-inserts : (C : List ChangeParts) (c : ChangeParts) (x : element_of.Insert) → In c C → In x (inserts_in (ops_of c)) → In x (inserts C)
In-inserts [] c x i j = absurd i
In-inserts (d ∷ C) c x (inl e) j = In-left x (inserts_in (ops_of d)) (inserts C) (subst (λ y. In x (inserts_in (ops_of y))) e j)
In-inserts (d ∷ C) c x (inr i) j = In-right x (inserts_in (ops_of d)) (inserts C) (In-inserts C c x i j)

pub inserts-In : (C : List ChangeParts) (x : element_of.Insert) → In x (inserts C) → (c : ChangeParts) × In c C × In x (inserts_in (ops_of c))
inserts-In [] x i = absurd i
inserts-In (d ∷ C) x i =
    elim (In-append x (inserts_in (ops_of d)) (inserts C) i) [
      | inl l ↦ (d, inl refl, l)
      | inr r ↦ let w = inserts-In C x r in (w.0, inr w.1, w.2)
    ]

pub inserts-more : (C D : List ChangeParts) → AllIn C D → AllIn (inserts C) (inserts D)
inserts-more C D more x i = let w = inserts-In C x i in In-inserts D w.0 x (more w.0 w.1) w.2

pub later-left : (a b : ℕ) → a ≤ later a b
later-left a b = grind (arith, nat_tests)

pub later-right : (a b : ℕ) → b ≤ later a b
later-right a b = grind (arith, nat_tests)

pub later-most : (a b n : ℕ) → a ≤ n → b ≤ n → later a b ≤ n
later-most a b n h k = grind (arith, nat_tests)

pub next_counter-above : (C : List ChangeParts) (c : ChangeParts) → In c C → c.start + op_count c ≤ next_counter C
next_counter-above [] c i = absurd i
next_counter-above (x ∷ C) c (inl e) = subst (λ (y : ChangeParts). y.start + op_count y ≤ next_counter (x ∷ C)) (sym e) (later-left (x.start + op_count x) (next_counter C))
next_counter-above (x ∷ C) c (inr i) =
    let rest = next_counter-above C c i in
    let right = later-right (x.start + op_count x) (next_counter C) in
    omega arith

pub one-next_counter : (C : List ChangeParts) → 1 ≤ next_counter C
one-next_counter [] = omega arith
one-next_counter (c ∷ C) = let h = one-next_counter C in grind (arith, nat_tests)

pub next_counter-least : (C : List ChangeParts) (n : ℕ) → 1 ≤ n → ((c : ChangeParts) → In c C → c.start + op_count c ≤ n) → next_counter C ≤ n
next_counter-least [] n h f = h
next_counter-least (x ∷ C) n h f = later-most (x.start + op_count x) (next_counter C) n (f x (inl refl)) (next_counter-least C n h (λ c i. f c (inr i)))

pub next_counter-more : (C D : List ChangeParts) → AllIn C D → next_counter C ≤ next_counter D
next_counter-more C D more = next_counter-least C (next_counter D) (one-next_counter D) (λ c i. next_counter-above D c (more c i))

pub le_both : (m n : ℕ) → m ≤ n → n ≤ m → m ≡ n
le_both m n h k = omega arith

pub next_counter-same : (C D : List ChangeParts) → AllIn C D → AllIn D C → next_counter C ≡ next_counter D
next_counter-same C D f g = le_both (next_counter C) (next_counter D) (next_counter-more C D f) (next_counter-more D C g)

pub later-assoc : (a b c : ℕ) → later (later a b) c ≡ later a (later b c)
later-assoc a b c = grind (arith, nat_tests)

pub later-one : (C : List ChangeParts) → later 1 (next_counter C) ≡ next_counter C
later-one C = let h = one-next_counter C in grind (arith, nat_tests)

pub later-end : (a : ℕ) → 1 ≤ a → later a 1 ≡ a
later-end a h = grind (arith, nat_tests)

next_counter-append : (C D : List ChangeParts) → next_counter (C ++ D) ≡ later (next_counter C) (next_counter D)
next_counter-append [] D = sym (later-one D)
next_counter-append (c ∷ C) D =
    ap (λ n. later (c.start + op_count c) n) (next_counter-append C D) ∙ sym (later-assoc (c.start + op_count c) (next_counter C) (next_counter D))

later-both : (a b : ℕ) → 1 ≤ a → later a (later b 1) ≡ later a b
later-both a b h = grind (arith, nat_tests)

-- the next counter where a change entered
pub next_counter-push : (C : List ChangeParts) (c : ChangeParts) → next_counter (C ++ c ∷ []) ≡ later (next_counter C) (c.start + op_count c)
next_counter-push C c = next_counter-append C (c ∷ []) ∙ later-both (next_counter C) (c.start + op_count c) (one-next_counter C)
