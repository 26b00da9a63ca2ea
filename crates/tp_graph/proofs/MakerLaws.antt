-- Who inserted what.
use Rattle.tp_graph.proofs.Common.{◌≡◌, ◌↔◌, ℕ, ◌+◌, ◌<◌, ◌≤◌, inl, inr, List, [], ◌∷◌, Bool, true, false, ◌&&◌, nat_lt, Some, None, refl, sym, ◌∙◌, subst, arith, slice_get, nat_tests, In, AllIn, truth, never, not_true, same_test, or_cases, or_left, or_right, both, both_left, both_right, OpId, same_actor, ChangeParts, op_count, ops_of, inserts_in, inserts, is_inserted, is_inserted-append, HasOp, IsMaker}
use Rattle.tp_graph.proofs.InsertLaws.{inserts_id-is, inserts_id-low, inserts_id-high}

-- a change inserts operations of its own alone
inserts-own : (d : ChangeParts) (id : OpId) → is_inserted (inserts_in (ops_of d)) id ≡ true → HasOp id d
inserts-own d id t = record {
  actor = both_left (same_actor d.actor id.actor) _ (sym (inserts_id-is d id) ∙ t);
  low = elim (truth (nat_lt id.counter d.start)) [
    | inl u ↦ let less : id.counter < d.start = grind (arith, nat_tests) in never t (sym (inserts_id-low d id less))
    | inr f ↦ grind (arith, nat_tests)
  ];
  high = elim (truth (nat_lt id.counter (d.start + op_count d))) [
    | inl u ↦ grind (arith, nat_tests)
    | inr f ↦ let past : d.start + op_count d ≤ id.counter = grind (arith, nat_tests) in never t (sym (inserts_id-high d id (d.start + op_count d) refl past))
  ];
}

-- of the changes of a list one inserts it, where it is inserted
inserted_by : (P : List ChangeParts) (id : OpId) → is_inserted (inserts P) id ≡ true → (d : ChangeParts) × In d P × (is_inserted (inserts_in (ops_of d)) id ≡ true)
inserted_by [] id t = cc
inserted_by (d ∷ P) id t =
    elim (or_cases (is_inserted (inserts_in (ops_of d)) id) (is_inserted (inserts P) id) (sym (is_inserted-append (inserts_in (ops_of d)) (inserts P) id) ∙ t)) [
      | inl u ↦ (d, inl refl, u)
      | inr u ↦ let w = inserted_by P id u in (w.0, inr w.1, w.2)
    ]

by_inserted : (P : List ChangeParts) (id : OpId) (d : ChangeParts) → In d P → is_inserted (inserts_in (ops_of d)) id ≡ true → is_inserted (inserts P) id ≡ true
by_inserted [] id d i t = absurd i
by_inserted (c ∷ P) id d (inl e) t =
    is_inserted-append (inserts_in (ops_of c)) (inserts P) id
    ∙ or_left (is_inserted (inserts_in (ops_of c)) id) (is_inserted (inserts P) id) (subst (λ y. is_inserted (inserts_in (ops_of y)) id ≡ true) e t)
by_inserted (c ∷ P) id d (inr i) t =
    is_inserted-append (inserts_in (ops_of c)) (inserts P) id ∙ or_right (is_inserted (inserts_in (ops_of c)) id) (is_inserted (inserts P) id) (by_inserted P id d i t)

-- where no change has the operation, none of some of them inserts it
pub inserted-none : (C P : List ChangeParts) (id : OpId) → AllIn P C → IsMaker C id None → false ≡ is_inserted (inserts P) id
inserted-none C P id more w =
    sym (not_true (is_inserted (inserts P) id) (λ t. let d = inserted_by P id t in w d.0 (more d.0 d.1) (inserts-own d.0 id d.2)))

-- else only the change at the place may insert it
pub inserted-maker : (C P : List ChangeParts) (id : OpId) (p : ℕ) (c : ChangeParts) (held b : Bool)
    → AllIn P C → IsMaker C id (Some p) → slice_get C p ≡ Some c → (held ≡ true) ↔ In c P → b ≡ is_inserted (inserts_in (ops_of c)) id → (held && b) ≡ is_inserted (inserts P) id
inserted-maker C P id p c held b more w at has is =
    same_test (held && b) (is_inserted (inserts P) id)
    (λ t. by_inserted P id c (has.0 (both_left held b t)) (sym is ∙ both_right held b t))
    (λ t.
    let d = inserted_by P id t in
    let here : Some d.0 ≡ Some c = sym (w.1 d.0 (more d.0 d.1) (inserts-own d.0 id d.2)) ∙ at in
    let one : d.0 ≡ c = cc in
    both held b (has.1 (subst (λ x. In x P) one d.1)) (is ∙ subst (λ x. is_inserted (inserts_in (ops_of x)) id ≡ true) one d.2))
