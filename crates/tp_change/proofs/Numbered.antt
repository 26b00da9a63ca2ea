-- The identifiers of a change's operations: its actor's, with running counters.
use Rattle.std.proofs.Common.{◌≡◌, ℕ, zero, suc, ◌+◌, ◌<◌, ◌≤◌, inl, inr, List, [], ◌∷◌, ◌++◌, length, refl, sym, ap, ◌∙◌, subst, arith}
use Rattle.tp_list.specs.Members.{In}
use Rattle.tp_opid.specs.declared.actor.Actor.{Actor}
use Rattle.tp_opid.specs.declared.op_id.OpId.{OpId}
use Rattle.tp_opid.specs.declared.op_id.Place.{Place}
use Rattle.tp_opid.specs.declared.op_id.Place.TheVariants.{After}
use Rattle.tp_opid.specs.Insert as element_of
use Rattle.tp_change.specs.declared.op.Op.{Op}
use Rattle.tp_change.specs.declared.op.Op.TheVariants as op_of
use Rattle.tp_layout.specs.declared.record.Record.{Record}
use Rattle.tp_layout.specs.declared.record.Record.TheVariants.{Insert, Delete, DeleteRun}
use Rattle.tp_layout.specs.declared.parts.ChangeParts.{ChangeParts}
use Rattle.tp_change.specs.Operations.{ops_of, ops_from, ops_in, run, deletes_from, id_of, op_count}
use Rattle.tp_layout.specs.Counts.{count_in}
use Rattle.tp_change.specs.Elements.{element, inserts_in}
use Rattle.tp_change.proofs.OpsLaws.{length-ops_of}

-- the operations have the identifiers (n, a), (n + 1, a), ..
abbrev pub Numbered : Actor → ℕ → List Op → Type 0
Numbered a n [] = Unit {0}
Numbered a n (op_of.Insert id after ch ∷ ops) = (id ≡ id_of a n) × Numbered a (n + 1) ops
Numbered a n (op_of.Delete id target ∷ ops) = (id ≡ id_of a n) × Numbered a (n + 1) ops

shift : (n k : ℕ) → n + suc k ≡ n + 1 + k
shift n k = omega arith

Numbered-append : (a : Actor) (n : ℕ) (xs ys : List Op) → Numbered a n xs → Numbered a (n + length xs) ys → Numbered a n (xs ++ ys)
Numbered-append a n [] ys h k = let e : n + 0 ≡ n = omega arith in subst (λ m. Numbered a m ys) e k
Numbered-append a n (op_of.Insert id after ch ∷ xs) ys h k = (h.0, Numbered-append a (n + 1) xs ys h.1 (subst (λ m. Numbered a m ys) (shift n (length xs)) k))
Numbered-append a n (op_of.Delete id target ∷ xs) ys h k = (h.0, Numbered-append a (n + 1) xs ys h.1 (subst (λ m. Numbered a m ys) (shift n (length xs)) k))

pub Numbered-prefix : (a : Actor) (n : ℕ) (xs ys : List Op) → Numbered a n (xs ++ ys) → Numbered a n xs
Numbered-prefix a n [] ys h = tt
Numbered-prefix a n (op_of.Insert id after ch ∷ xs) ys h = (h.0, Numbered-prefix a (n + 1) xs ys h.1)
Numbered-prefix a n (op_of.Delete id target ∷ xs) ys h = (h.0, Numbered-prefix a (n + 1) xs ys h.1)

pub Numbered-rest : (a : Actor) (n : ℕ) (xs ys : List Op) → Numbered a n (xs ++ ys) → Numbered a (n + length xs) ys
Numbered-rest a n [] ys h = let e : n ≡ n + 0 = omega arith in subst (λ m. Numbered a m ys) e h
Numbered-rest a n (op_of.Insert id after ch ∷ xs) ys h = subst (λ m. Numbered a m ys) (sym (shift n (length xs))) (Numbered-rest a (n + 1) xs ys h.1)
Numbered-rest a n (op_of.Delete id target ∷ xs) ys h = subst (λ m. Numbered a m ys) (sym (shift n (length xs))) (Numbered-rest a (n + 1) xs ys h.1)

length-run : (a : Actor) (n : ℕ) (after : Place) (text : List ℕ) → length (run a n after text) ≡ length text
length-run a n after [] = refl
length-run a n after (ch ∷ text) = ap suc (length-run a (n + 1) (After (id_of a n)) text)

Numbered-run : (a : Actor) (n : ℕ) (after : Place) (text : List ℕ) → Numbered a n (run a n after text)
Numbered-run a n after [] = tt
Numbered-run a n after (ch ∷ text) = (refl, Numbered-run a (n + 1) (After (id_of a n)) text)

length-deletes_from : (a : Actor) (n : ℕ) (target : OpId) (count : ℕ) → length (deletes_from a n target count) ≡ count
length-deletes_from a n target zero = refl
length-deletes_from a n target (suc count) = ap suc (length-deletes_from a (n + 1) (id_of target.actor (target.counter + 1)) count)

Numbered-deletes_from : (a : Actor) (n : ℕ) (target : OpId) (count : ℕ) → Numbered a n (deletes_from a n target count)
Numbered-deletes_from a n target zero = tt
Numbered-deletes_from a n target (suc count) = (refl, Numbered-deletes_from a (n + 1) (id_of target.actor (target.counter + 1)) count)

Numbered-in : (a : Actor) (n : ℕ) (r : Record) → Numbered a n (ops_in a n r)
Numbered-in a n (Insert after text) = Numbered-run a n after text
Numbered-in a n (Delete target) = (refl, tt)
Numbered-in a n (DeleteRun first count) = Numbered-deletes_from a n first count

pub length-ops_in : (a : Actor) (n : ℕ) (r : Record) → length (ops_in a n r) ≡ count_in r
length-ops_in a n (Insert after text) = length-run a n after text
length-ops_in a n (Delete target) = refl
length-ops_in a n (DeleteRun first count) = length-deletes_from a n first count

Numbered-from : (a : Actor) (n : ℕ) (rs : List Record) → Numbered a n (ops_from a n rs)
Numbered-from a n [] = tt
Numbered-from a n (r ∷ rs) =
    Numbered-append a n (ops_in a n r) (ops_from a (n + count_in r) rs) (Numbered-in a n r)
    (subst (λ k. Numbered a (n + k) (ops_from a (n + count_in r) rs)) (sym (length-ops_in a n r)) (Numbered-from a (n + count_in r) rs))

pub Numbered-ops_of : (c : ChangeParts) → Numbered c.actor c.start (ops_of c)
unfolding ops_of
Numbered-ops_of c = Numbered-from c.actor c.start c.records

-- where an insert's identifier lies
pub record HasCounterWithin (a : Actor) (n m : ℕ) (id : OpId) : Type 0 where
  pub actor : id.actor ≡ a
  pub low : n ≤ id.counter
  pub high : id.counter < m

within_more : (a : Actor) (n k : ℕ) (id : OpId) → HasCounterWithin a (n + 1) (n + 1 + k) id → HasCounterWithin a n (n + suc k) id
within_more a n k id w =
    let low : n + 1 ≤ id.counter = w.low in
    let high : id.counter < n + 1 + k = w.high in
    record { actor = w.actor; low = omega arith; high = omega arith }

within_first : (a : Actor) (n k : ℕ) (id : OpId) → id ≡ id_of a n → HasCounterWithin a n (n + suc k) id
within_first a n k id e =
    let at : id.counter ≡ n = ap (λ (x : OpId). x.counter) e in
    record { actor = ap (λ (x : OpId). x.actor) e; low = omega arith; high = omega arith }

pub Numbered-In : (a : Actor) (n : ℕ) (ops : List Op) (x : element_of.Insert) → Numbered a n ops → In x (inserts_in ops) → HasCounterWithin a n (n + length ops) x.id
Numbered-In a n [] x h i = absurd i
Numbered-In a n (op_of.Insert id after ch ∷ ops) x h (inl e) = within_first a n (length ops) x.id (ap (λ (y : element_of.Insert). y.id) e ∙ h.0)
Numbered-In a n (op_of.Insert id after ch ∷ ops) x h (inr i) = within_more a n (length ops) x.id (Numbered-In a (n + 1) ops x h.1 i)
Numbered-In a n (op_of.Delete id target ∷ ops) x h i = within_more a n (length ops) x.id (Numbered-In a (n + 1) ops x h.1 i)

-- one identifier is that of one insert
pub Numbered-once : (a : Actor) (n : ℕ) (ops : List Op) → Numbered a n ops → (x y : element_of.Insert) → In x (inserts_in ops) → In y (inserts_in ops) → x.id ≡ y.id → x ≡ y
Numbered-once a n [] h x y i j e = absurd i
Numbered-once a n (op_of.Delete id target ∷ ops) h x y i j e = Numbered-once a (n + 1) ops h.1 x y i j e
Numbered-once a n (op_of.Insert id after ch ∷ ops) h x y i j e =
    elim i [
      | inl s ↦ elim j [
        | inl t ↦ s ∙ sym t
        | inr k ↦ later x y s k e
      ]
      | inr k ↦ elim j [
        | inl t ↦ later y x t k (sym e)
        | inr m ↦ Numbered-once a (n + 1) ops h.1 x y k m e
      ]
    ] where
      later : (x y : element_of.Insert) → x ≡ element id after ch → In y (inserts_in ops) → x.id ≡ y.id → {A : Type 0} → A
      later x y s k e =
          let w = Numbered-In a (n + 1) ops y h.1 k in
          let low : n + 1 ≤ y.id.counter = w.low in
          let at : x.id.counter ≡ n = ap (λ (z : element_of.Insert). z.id.counter) s ∙ ap (λ (z : OpId). z.counter) h.0 in
          let same : x.id.counter ≡ y.id.counter = ap (λ (z : OpId). z.counter) e in
          absurd (omega arith)

pub inserts-within : (c : ChangeParts) (x : element_of.Insert) → In x (inserts_in (ops_of c)) → HasCounterWithin c.actor c.start (c.start + op_count c) x.id
inserts-within c x i = subst (λ k. HasCounterWithin c.actor c.start (c.start + k) x.id) (length-ops_of c) (Numbered-In c.actor c.start (ops_of c) x (Numbered-ops_of c) i)
