-- Where a run of new identifiers goes: directly after its reference, all of it.
use Rattle.std.proofs.Common.{◌≡◌, ℕ, ◌+◌, ◌≤◌, List, [], ◌∷◌, ◌++◌, length, inl, inr, refl, sym, ap, subst, append_assoc, append-nil, arith}
use Rattle.tp_list.specs.Members.{In, AllIn}
use Rattle.tp_list.proofs.Members.{In-left, In-right, In-push, In-last}
use Rattle.tp_opid.specs.declared.actor.Actor.{Actor}
use Rattle.tp_opid.specs.declared.op_id.OpId.{OpId}
use Rattle.tp_opid.specs.declared.op_id.Place.{Place}
use Rattle.tp_opid.specs.declared.op_id.Place.TheVariants.{Start, After}
use Rattle.tp_opid.specs.Insert.{Insert}
use Rattle.tp_opid.specs.Order.{Below}
use Rattle.tp_opid.specs.Tree.{IsThere, IsAboveAll, IsReferenceBelow, IsTree, CanInsert}
use Rattle.tp_opid.proofs.Orders.{Below-asym, Below-trans, Below-counter}
use Rattle.tp_opid.proofs.Trees.{IsThere-member, IsTree-push}
use Rattle.tp_change.specs.Operations.{id_of, run}
use Rattle.tp_change.specs.Elements.{element, inserts_in, deletes_in}
use Rattle.tp_change.specs.OpIds.{ids_from}
use Rattle.tp_rga.specs.Order.{EndsAt, IsInOrder}
use Rattle.tp_rga.proofs.Places.{StopsAt, put_in_order}
use Rattle.tp_edit.specs.Text.{chars_of}
use Rattle.tp_edit.proofs.Numbered.{IsFresh-under}
use Rattle.tp_edit.specs.EditRecords.{ids_of}

-- the elements of a run
abbrev pub elements_of_run : Actor → ℕ → Place → List ℕ → List Insert
elements_of_run a n after text = inserts_in (run a n after text)

pub ids_of-run : (a : Actor) (n : ℕ) (after : Place) (text : List ℕ) → ids_of (elements_of_run a n after text) ≡ ids_from a n (length text)
ids_of-run a n after [] = refl
ids_of-run a n after (ch ∷ text) = ap (λ l. id_of a n ∷ l) (ids_of-run a (n + 1) (After (id_of a n)) text)

pub chars_of-run : (a : Actor) (n : ℕ) (after : Place) (text : List ℕ) → chars_of (elements_of_run a n after text) ≡ text
chars_of-run a n after [] = refl
chars_of-run a n after (ch ∷ text) = ap (λ l. ch ∷ l) (chars_of-run a (n + 1) (After (id_of a n)) text)

pub deletes_in-run : (a : Actor) (n : ℕ) (after : Place) (text : List ℕ) → deletes_in (run a n after text) ≡ []
deletes_in-run a n after [] = refl
deletes_in-run a n after (ch ∷ text) = deletes_in-run a (n + 1) (After (id_of a n)) text

-- each has an identifier of the actor from the counter n on
pub run-counter : (a : Actor) (n : ℕ) (after : Place) (text : List ℕ) (e : Insert) → In e (elements_of_run a n after text) → (k : ℕ) × (n ≤ k) × (e.id ≡ id_of a k)
run-counter a n after [] e i = absurd i
run-counter a n after (ch ∷ text) e (inl i) = (n, omega arith, ap (λ (w : Insert). w.id) i)
run-counter a n after (ch ∷ text) e (inr i) =
    let r = run-counter a (n + 1) (After (id_of a n)) text e i in (r.0, omega (arith, r.1), r.2)

Below-more : (a : Actor) (x : OpId) (n m : ℕ) → n ≤ m → Below x (id_of a n) → Below x (id_of a (m + 1))
Below-more a x n m le h = Below-trans x (id_of a n) (id_of a (m + 1)) h (Below-counter (id_of a n) (id_of a (m + 1)) (omega arith))

stops : (T B : List Insert) (x : OpId) → IsAboveAll T x → AllIn B T → StopsAt x B
stops T [] x above part = tt
stops T (h ∷ B) x above part = λ b. Below-asym x h.id b (above h (part h (inl refl)))

place_there : (T F B : List Insert) (x : OpId) (p : Place) → IsInOrder T (F ++ B) → IsAboveAll T x → EndsAt F p → IsReferenceBelow T x p
place_there T F B x Start order above ends = tt
place_there T F B x (After r) order above (A, f, is, names) =
    let in_prefix : In f F = subst (In f) (sym is) (In-last f A) in
    let there : In f T = order.same.back f (In-left f F B in_prefix) in
    subst (λ w. IsThere T w × Below w x) names (IsThere-member T f there, above f there)

-- an insert of the next identifier can come
can_insert : (T F B : List Insert) (a : Actor) (n : ℕ) (p : Place) → IsInOrder T (F ++ B) → IsAboveAll T (id_of a n) → EndsAt F p → CanInsert T (id_of a n) p
can_insert T F B a n p order above ends = record {
  new = λ e i. IsFresh-under T a n above e i n (omega arith);
  place = place_there T F B (id_of a n) p order above ends;
}

-- The elements T with the run are in order where the run is put in after the end of F, which is its reference.
pub run_in_order : (text : List ℕ) (T F B : List Insert) (a : Actor) (n : ℕ) (after : Place) → IsTree T → IsInOrder T (F ++ B) → EndsAt F after → IsAboveAll T (id_of a n) → IsTree (T ++ elements_of_run a n after text) × IsInOrder (T ++ elements_of_run a n after text) (F ++ (elements_of_run a n after text ++ B)) × IsAboveAll (T ++ elements_of_run a n after text) (id_of a (n + length text))
run_in_order [] T F B a n after tree order ends above =
    subst (λ S. IsTree S × IsInOrder S (F ++ B) × IsAboveAll S (id_of a (n + 0))) (sym (append-nil T))
    (tree, order, subst (λ m. IsAboveAll T (id_of a m)) (let e : n ≡ n + 0 = omega arith in e) above)
run_in_order (ch ∷ text) T F B a n after tree order ends above =
    let x = element (id_of a n) after ch in
    let S = T ++ x ∷ [] in
    let G = F ++ x ∷ [] in
    let can = can_insert T F B a n after order above ends in
    let put : IsInOrder S (F ++ x ∷ B) =
    put_in_order T F [] B x tree order can ends (λ e i. absurd i) (stops T B (id_of a n) above (λ e i. order.same.back e (In-right e F B i))) in
    let next : IsInOrder S (G ++ B) = subst (IsInOrder S) (sym (append_assoc F (x ∷ []) B)) put in
    let higher : IsAboveAll S (id_of a (n + 1)) = (λ e i. elim (In-push e T x i) [
      | inl old ↦ Below-more a e.id n n (omega arith) (above e old)
      | inr new ↦ subst (λ (w : Insert). Below w.id (id_of a (n + 1))) (sym new) (Below-counter (id_of a n) (id_of a (n + 1)) (omega arith))
    ]) in
    let here : EndsAt G (After (id_of a n)) = (F, x, refl, refl) in
    let rest = run_in_order text S G B a (n + 1) (After (id_of a n)) (IsTree-push T x tree can) next here higher in
    let es = elements_of_run a (n + 1) (After (id_of a n)) text in
    let members : S ++ es ≡ T ++ x ∷ es = append_assoc T (x ∷ []) es in
    let list : G ++ (es ++ B) ≡ F ++ x ∷ (es ++ B) = append_assoc F (x ∷ []) (es ++ B) in
    let counter : (n + 1) + length text ≡ n + length (ch ∷ text) = omega arith in (
      subst IsTree members rest.0,
      subst (λ Z. IsInOrder Z (F ++ x ∷ (es ++ B))) members (subst (IsInOrder (S ++ es)) list rest.1),
      subst (λ Z. IsAboveAll Z (id_of a (n + length (ch ∷ text)))) members (subst (λ m. IsAboveAll (S ++ es) (id_of a m)) counter rest.2),
    )
