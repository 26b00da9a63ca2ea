-- The inserts of a sound list are a tree, and so is each prefix of what a change adds.
use Rattle.tp_history.proofs.Common.{◌≡◌, ℕ, ◌+◌, ◌<◌, ◌≤◌, inl, inr, List, [], ◌∷◌, ◌++◌, length, true, ◌||◌, sym, ap, ◌∙◌, subst, arith, In, not_true, or_cases, both_left, both_right, In-left, In-right, In-append, OpId, Place, Start, After, same_actor, id_eq, same_actor-itself, id_eq-same, Below-counter, ChangeParts, ops_of, op_count, element, inserts_in, inserts, is_inserted, is_reference, refers, next_counter, inserts_in-append, inserts-append, is_inserted-In, grown, refers-append, grown-ids, inserts-In, inserts-more, next_counter-above, past, Sound, Fits}
use Rattle.std.proofs.lemmas.List.{append-nil}
use Rattle.tp_opid.specs.Insert as element_of
use Rattle.tp_opid.specs.Tree.{IsThere, IsReferenceBelow, IsTree, CanInsert}
use Rattle.tp_opid.proofs.Trees.{IsReferenceBelow-grow}
use Rattle.tp_change.specs.declared.op.Op.{Op}
use Rattle.tp_change.specs.declared.op.Op.TheVariants as op_of
use Rattle.tp_change.proofs.Numbered.{Numbered, Numbered-prefix, Numbered-rest, Numbered-ops_of, Numbered-In, Numbered-once, inserts-within}
use Rattle.tp_history.proofs.PastLaws.{past-In}
use Rattle.tp_history.proofs.SoundLaws.{sound-induct}
use Rattle.tp_history.proofs.CountLaws.{own_past}

-- ---- what a change that fits adds

-- an insert of the past is below the change's counters
pub past-below : (C : List ChangeParts) (c : ChangeParts) → Fits C c → (y : element_of.Insert) → In y (inserts (past C c.deps)) → y.id.counter < c.start
past-below C c f y i =
    let w = inserts-In (past C c.deps) y i in
    let r = inserts-within w.0 y w.2 in
    let high : y.id.counter < w.0.start + op_count w.0 = r.high in
    let above : w.0.start + op_count w.0 ≤ next_counter (past C c.deps) = next_counter-above (past C c.deps) w.0 w.1 in
    let start : c.start ≡ next_counter (past C c.deps) = f.start in
    omega arith

-- an insert of the list that has the change's actor is below the change's counters
pub own-below : (C : List ChangeParts) (c : ChangeParts) → Sound C → Fits C c → (y : element_of.Insert) → In y (inserts C) → y.id.actor ≡ c.actor → y.id.counter < c.start
own-below C c s f y i e =
    let w = inserts-In C y i in
    let r = inserts-within w.0 y w.2 in
    let mine : same_actor w.0.actor c.actor ≡ true = subst (λ a. same_actor w.0.actor a ≡ true) (sym r.actor ∙ e) (same_actor-itself w.0.actor) in
    let high : y.id.counter < w.0.start + op_count w.0 = r.high in
    let above : w.0.start + op_count w.0 ≤ next_counter (past C c.deps) = next_counter-above (past C c.deps) w.0 (own_past C c w.0 s f w.1 mine) in
    let start : c.start ≡ next_counter (past C c.deps) = f.start in
    omega arith

there_by : (S : List element_of.Insert) (r : OpId) (y : element_of.Insert) → In y S → y.id ≡ r → IsThere S r
there_by S r y i e = (y.after, (y.ch, subst (λ id. In (element id y.after y.ch) S) e i))

-- The reference of an operation is there and smaller, among the list and what the change inserts before it.
place_there : (C : List ChangeParts) (c : ChangeParts) → Fits C c → (xs : List Op) → Numbered c.actor c.start xs → (n : ℕ) → c.start + length xs ≤ n
    → (id : OpId) → id.counter ≡ n → (p : Place) → is_reference (grown (inserts (past C c.deps)) xs) p ≡ true → IsReferenceBelow (inserts C ++ inserts_in xs) id p
place_there C c f xs num n at id here Start e = tt
place_there C c f xs num n at id here (After r) e =
    let split : (is_inserted (inserts_in xs) r || is_inserted (inserts (past C c.deps)) r) ≡ true = sym (grown-ids (inserts (past C c.deps)) xs r) ∙ e in
    elim (or_cases (is_inserted (inserts_in xs) r) (is_inserted (inserts (past C c.deps)) r) split) [
      | inl own ↦
          let w = is_inserted-In (inserts_in xs) r own in
          let q = Numbered-In c.actor c.start xs w.0 num w.1 in
          let high : w.0.id.counter < c.start + length xs = q.high in
          let same : w.0.id.counter ≡ r.counter = ap (λ (z : OpId). z.counter) w.2 in
          (there_by (inserts C ++ inserts_in xs) r w.0 (In-right w.0 (inserts C) (inserts_in xs) w.1) w.2, Below-counter r id (omega arith))
      | inr older ↦
          let w = is_inserted-In (inserts (past C c.deps)) r older in
          let low : w.0.id.counter < c.start = past-below C c f w.0 w.1 in
          let same : w.0.id.counter ≡ r.counter = ap (λ (z : OpId). z.counter) w.2 in
          (there_by (inserts C ++ inserts_in xs) r w.0 (In-left w.0 (inserts C) (inserts_in xs) (inserts-more (past C c.deps) C (past-In C c.deps) w.0 w.1)) w.2, Below-counter r id (omega arith))
    ]

rest_refers : (C : List ChangeParts) (c : ChangeParts) → Fits C c → (xs ys : List Op) → ops_of c ≡ xs ++ ys → refers (grown (inserts (past C c.deps)) xs) ys ≡ true
rest_refers C c f xs ys e =
    both_right (refers (inserts (past C c.deps)) xs) (refers (grown (inserts (past C c.deps)) xs) ys)
    (sym (refers-append (inserts (past C c.deps)) xs ys) ∙ ap (refers (inserts (past C c.deps))) (sym e) ∙ f.refs)

-- Each insert of a change that fits can be made after the list's inserts and those before it in the change.
pub can_insert : (C : List ChangeParts) (c : ChangeParts) → Sound C → Fits C c → (xs : List Op) (id : OpId) (after : Place) (ch : ℕ) (ys : List Op)
    → ops_of c ≡ xs ++ op_of.Insert id after ch ∷ ys → CanInsert (inserts C ++ inserts_in xs) id after
can_insert C c s f xs id after ch ys e =
    let num : Numbered c.actor c.start (xs ++ op_of.Insert id after ch ∷ ys) = subst (λ l. Numbered c.actor c.start l) e (Numbered-ops_of c) in
    let prefix = Numbered-prefix c.actor c.start xs (op_of.Insert id after ch ∷ ys) num in
    let own = (Numbered-rest c.actor c.start xs (op_of.Insert id after ch ∷ ys) num).0 in
    let counter : id.counter ≡ c.start + length xs = ap (λ (z : OpId). z.counter) own in
    let actor : id.actor ≡ c.actor = ap (λ (z : OpId). z.actor) own in
    record {
      new = λ y i. not_true (id_eq y.id id)
          (λ t.
          let same : y.id ≡ id = id_eq-same y.id id t in
          let counted : y.id.counter ≡ id.counter = ap (λ (z : OpId). z.counter) same in
          elim (In-append y (inserts C) (inserts_in xs) i) [
            | inl l ↦ let low : y.id.counter < c.start = own-below C c s f y l (ap (λ (z : OpId). z.actor) same ∙ actor) in absurd (omega arith)
            | inr r ↦
                let q = Numbered-In c.actor c.start xs y prefix r in
                let high : y.id.counter < c.start + length xs = q.high in absurd (omega arith)
          ]);
      place = place_there C c f xs prefix (c.start + length xs) (omega arith) id counter after
          (both_left (is_reference (grown (inserts (past C c.deps)) xs) after) _ (rest_refers C c f xs (op_of.Insert id after ch ∷ ys) e));
    }

-- The target of each delete of a change that fits is among the list's inserts and those before it in the change.
pub can_delete : (C : List ChangeParts) (c : ChangeParts) → Fits C c → (xs : List Op) (id target : OpId) (ys : List Op)
    → ops_of c ≡ xs ++ op_of.Delete id target ∷ ys → IsThere (inserts C ++ inserts_in xs) target
can_delete C c f xs id target ys e =
    let t : is_inserted (grown (inserts (past C c.deps)) xs) target ≡ true =
    both_left (is_inserted (grown (inserts (past C c.deps)) xs) target) _ (rest_refers C c f xs (op_of.Delete id target ∷ ys) e) in
    let split : (is_inserted (inserts_in xs) target || is_inserted (inserts (past C c.deps)) target) ≡ true = sym (grown-ids (inserts (past C c.deps)) xs target) ∙ t in
    elim (or_cases (is_inserted (inserts_in xs) target) (is_inserted (inserts (past C c.deps)) target) split) [
      | inl own ↦
          let w = is_inserted-In (inserts_in xs) target own in
          there_by (inserts C ++ inserts_in xs) target w.0 (In-right w.0 (inserts C) (inserts_in xs) w.1) w.2
      | inr older ↦
          let w = is_inserted-In (inserts (past C c.deps)) target older in
          there_by (inserts C ++ inserts_in xs) target w.0 (In-left w.0 (inserts C) (inserts_in xs) (inserts-more (past C c.deps) C (past-In C c.deps) w.0 w.1)) w.2
    ]

-- ---- the whole

insert_at : (ops : List Op) (x : element_of.Insert) → In x (inserts_in ops) → (xs : List Op) × (ys : List Op) × (ops ≡ xs ++ op_of.Insert x.id x.after x.ch ∷ ys)
insert_at [] x i = absurd i
insert_at (op_of.Insert id after ch ∷ ops) x (inl e) =
    ([], ops, ap (λ (y : element_of.Insert). op_of.Insert y.id y.after y.ch ∷ ops) (sym e))
insert_at (op_of.Insert id after ch ∷ ops) x (inr i) = let w = insert_at ops x i in (op_of.Insert id after ch ∷ w.0, w.1, ap (λ l. op_of.Insert id after ch ∷ l) w.2)
insert_at (op_of.Delete id target ∷ ops) x i = let w = insert_at ops x i in (op_of.Delete id target ∷ w.0, w.1, ap (λ l. op_of.Delete id target ∷ l) w.2)

tree_step : (C : List ChangeParts) (c : ChangeParts) → Sound C → IsTree (inserts C) → Fits C c → IsTree (inserts (C ++ c ∷ []))
tree_step C c s t f =
    subst IsTree (sym (inserts-append C (c ∷ []) ∙ ap (λ l. inserts C ++ l) (append-nil (inserts_in (ops_of c))))) (record {
      once = λ a b i j e. elim (In-append a (inserts C) (inserts_in (ops_of c)) i) [
        | inl ia ↦ elim (In-append b (inserts C) (inserts_in (ops_of c)) j) [
          | inl jb ↦ t.once a b ia jb e
          | inr jb ↦ apart a b ia jb e
        ]
        | inr ia ↦ elim (In-append b (inserts C) (inserts_in (ops_of c)) j) [
          | inl jb ↦ apart b a jb ia (sym e)
          | inr jb ↦ Numbered-once c.actor c.start (ops_of c) (Numbered-ops_of c) a b ia jb e
        ]
      ];
      placed = λ x i. elim (In-append x (inserts C) (inserts_in (ops_of c)) i) [
        | inl l ↦ IsReferenceBelow-grow (inserts C) (inserts C ++ inserts_in (ops_of c)) (λ y k. In-left y (inserts C) (inserts_in (ops_of c)) k) x.id x.after (t.placed x l)
        | inr r ↦
            let w = insert_at (ops_of c) x r in
            let can = can_insert C c s f w.0 x.id x.after x.ch w.1 w.2 in
            let parts : inserts_in (ops_of c) ≡ inserts_in w.0 ++ (x ∷ inserts_in w.1) = ap inserts_in w.2 ∙ inserts_in-append w.0 (op_of.Insert x.id x.after x.ch ∷ w.1) in
            IsReferenceBelow-grow (inserts C ++ inserts_in w.0) (inserts C ++ inserts_in (ops_of c))
            (λ y k. elim (In-append y (inserts C) (inserts_in w.0) k) [
              | inl l ↦ In-left y (inserts C) (inserts_in (ops_of c)) l
              | inr m ↦ In-right y (inserts C) (inserts_in (ops_of c)) (subst (λ l. In y l) (sym parts) (In-left y (inserts_in w.0) (x ∷ inserts_in w.1) m))
            ]) x.id x.after can.place
      ];
    }) where
      apart : (a b : element_of.Insert) → In a (inserts C) → In b (inserts_in (ops_of c)) → a.id ≡ b.id → {A : Type 0} → A
      apart a b i j e =
          let w = inserts-within c b j in
          let low : c.start ≤ b.id.counter = w.low in
          let below : a.id.counter < c.start = own-below C c s f a i (ap (λ (z : OpId). z.actor) e ∙ w.actor) in
          let same : a.id.counter ≡ b.id.counter = ap (λ (z : OpId). z.counter) e in
          absurd (omega arith)

-- the inserts of a sound list are a tree
pub inserts_tree : (C : List ChangeParts) → Sound C → IsTree (inserts C)
inserts_tree = sound-induct (λ C. IsTree (inserts C)) (record { once = λ a b i j e. absurd i; placed = λ e i. absurd i }) tree_step

-- each insert of a list is below the next counter
pub inserts-below_next : (C : List ChangeParts) (x : element_of.Insert) → In x (inserts C) → x.id.counter < next_counter C
inserts-below_next C x i =
    let w = inserts-In C x i in
    let r = inserts-within w.0 x w.2 in
    let high : x.id.counter < w.0.start + op_count w.0 = r.high in
    let above : w.0.start + op_count w.0 ≤ next_counter C = next_counter-above C w.0 w.1 in
    omega arith
