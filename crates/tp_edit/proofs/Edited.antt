-- The text after an edit is the text before with each splice done in turn.
use Rattle.std.proofs.Common.{◌≡◌, ℕ, zero, suc, ◌+◌, ◌-◌, ◌≤◌, true, false, ◌||◌, List, [], ◌∷◌, ◌++◌, length, inl, inr, refl, sym, ap, ◌∙◌, subst, append_assoc, append-nil, take, drop, arith, not}
use Rattle.std.proofs.lemmas.Bool.{and_parts}
use Rattle.std.proofs.lemmas.List.{take-map, drop-map, map-append, length-map, take-append-drop, drop-drop, length-take-le, length-drop}
use Rattle.tp_list.specs.Members.{In, AllIn}
use Rattle.tp_list.proofs.Members.{In-left, In-right, In-append, In-last, In-filter}
use Rattle.tp_list.proofs.Tests.{both}
use Rattle.tp_opid.specs.declared.actor.Actor.{Actor}
use Rattle.tp_opid.specs.declared.op_id.OpId.{OpId}
use Rattle.tp_opid.specs.declared.op_id.Place.{Place}
use Rattle.tp_opid.specs.declared.op_id.Place.TheVariants.{Start, After}
use Rattle.tp_opid.specs.Insert.{Insert}
use Rattle.tp_opid.specs.Tree.{IsThere, IsAboveAll}
use Rattle.tp_opid.proofs.Orders.{Below-trans, Below-counter}
use Rattle.tp_opid.proofs.Trees.{IsThere-grow, IsThere-member}
use Rattle.tp_change.specs.declared.op.Op.{Op}
use Rattle.tp_change.specs.declared.op.Op.TheVariants as op_of
use Rattle.tp_layout.specs.declared.record.Record.{Record}
use Rattle.tp_layout.specs.declared.parts.ChangeParts.{ChangeParts}
use Rattle.tp_change.specs.Operations.{id_of, run, ops_from, ops_of}
use Rattle.tp_layout.specs.Counts as operations
use Rattle.tp_change.specs.Elements.{element, inserts_in, deletes_in, is_inserted, is_reference, refers}
use Rattle.tp_change.specs.OpIds.{ids_from}
use Rattle.tp_change.proofs.ElementLaws.{inserts_in-append, deletes_in-append, ops_from-append, is_inserted-member, is_inserted-more}
use Rattle.tp_change.proofs.Numbered.{Numbered-ops_of, Numbered}
use Rattle.tp_rga.specs.Order.{EndsAt, IsInOrder}
use Rattle.tp_rga.specs.Shown.{is_removed, visible_of}
use Rattle.tp_rga.proofs.OneOrder.{one_order, present_once}
use Rattle.tp_edit.specs.Text.{chars_of}
use Rattle.tp_edit.proofs.Numbered.{CanApply-refers, IsFresh-under}
use Rattle.tp_edit.specs.declared.splice.Splice.{Splice}
use Rattle.tp_edit.specs.Splices.{inserted_chars, count_of_splice, total_count, splice_at, IsInRange, AllInRange, all_spliced}
use Rattle.tp_edit.specs.EditRecords.{ids_of, after_last, deletes_of, removals_of, runs_of, records_of_splice, ids_after, records_of_edit, ids_after_all}
use Rattle.tp_edit.specs.EditLaw.{IsEditable, ops_of_edit, EditLaw, AppliedLaw}
use Rattle.tp_edit.proofs.Landed.{length-splice_at}
use Rattle.tp_edit.proofs.Removals.{ops_from-removals, count-removals}
use Rattle.tp_edit.proofs.ShownEdits.{visible_of-append, shown_kept, shown_cut, split_shown, named_from-target, IdsApart-filter}
use Rattle.tp_edit.proofs.RunPlaces.{elements_of_run, ids_of-run, chars_of-run, deletes_in-run, run-counter, run_in_order}

-- ---- operations one list after another

pub count-append : (rs qs : List Record) → operations.count_of (rs ++ qs) ≡ operations.count_of rs + operations.count_of qs
count-append [] qs = omega arith
count-append (r ∷ rs) qs = let rest = count-append rs qs in omega (arith, rest)

count-deletes : (xs : List OpId) → operations.count_of (deletes_of xs) ≡ length xs
count-deletes [] = refl
count-deletes (x ∷ xs) = let rest = count-deletes xs in omega (arith, rest)

count-runs : (after : Place) (text : List ℕ) → operations.count_of (runs_of after text) ≡ length text
count-runs after [] = refl
count-runs after (ch ∷ text) = omega arith

inserts_in-deletes : (a : Actor) (n : ℕ) (xs : List OpId) → inserts_in (ops_from a n (deletes_of xs)) ≡ []
inserts_in-deletes a n [] = refl
inserts_in-deletes a n (x ∷ xs) = inserts_in-deletes a (n + 1) xs

ops_from-runs : (a : Actor) (n : ℕ) (after : Place) (text : List ℕ) → ops_from a n (runs_of after text) ≡ run a n after text
ops_from-runs a n after [] = refl
ops_from-runs a n after (ch ∷ text) = append-nil (run a n after (ch ∷ text))

-- ---- references that are there

is_inserted-there : (S : List Insert) (x : OpId) → IsThere S x → is_inserted S x ≡ true
is_inserted-there S x (p, (ch, i)) = is_inserted-member S (element x p ch) i

is_reference-grow : (S T : List Insert) → AllIn S T → (p : Place) → is_reference S p ≡ true → is_reference T p ≡ true
is_reference-grow S T sub Start h = refl
is_reference-grow S T sub (After r) h = is_inserted-more S T r sub h

refers-grow : (ops : List Op) (S T : List Insert) → AllIn S T → refers S ops ≡ true → refers T ops ≡ true
refers-grow [] S T sub h = refl
refers-grow (op_of.Insert id after ch ∷ ops) S T sub h =
    let parts = and_parts (is_reference S after) (refers (element id after ch ∷ S) ops) h in
    both (is_reference T after) (refers (element id after ch ∷ T) ops) (is_reference-grow S T sub after parts.0)
    (refers-grow ops (element id after ch ∷ S) (element id after ch ∷ T) (λ e i. elim i [ inl same ↦ inl same | inr old ↦ inr (sub e old) ]) parts.1)
refers-grow (op_of.Delete id target ∷ ops) S T sub h =
    let parts = and_parts (is_inserted S target) (refers S ops) h in
    both (is_inserted T target) (refers T ops) (is_inserted-more S T target sub parts.0) (refers-grow ops S T sub parts.1)

-- what refers to S, and then to S with the inserts so far
refers-join : (xs ys : List Op) (S : List Insert) → refers S xs ≡ true → refers (S ++ inserts_in xs) ys ≡ true → refers S (xs ++ ys) ≡ true
refers-join [] ys S h k = subst (λ T. refers T ys ≡ true) (append-nil S) k
refers-join (op_of.Insert id after ch ∷ xs) ys S h k =
    let x = element id after ch in
    let parts = and_parts (is_reference S after) (refers (x ∷ S) xs) h in
    both (is_reference S after) (refers (x ∷ S) (xs ++ ys)) parts.0
    (refers-join xs ys (x ∷ S) parts.1 (refers-grow ys (S ++ x ∷ inserts_in xs) ((x ∷ S) ++ inserts_in xs) (λ e i. elim (In-append e S (x ∷ inserts_in xs) i) [
      | inl old ↦ inr (In-left e S (inserts_in xs) old)
      | inr (inl same) ↦ inl same
      | inr (inr new) ↦ inr (In-right e S (inserts_in xs) new)
    ]) k))
refers-join (op_of.Delete id target ∷ xs) ys S h k =
    let parts = and_parts (is_inserted S target) (refers S xs) h in
    both (is_inserted S target) (refers S (xs ++ ys)) parts.0 (refers-join xs ys S parts.1 k)

refers-deletes : (a : Actor) (n : ℕ) (xs : List OpId) (S : List Insert) → ((x : OpId) → In x xs → IsThere S x) → refers S (ops_from a n (deletes_of xs)) ≡ true
refers-deletes a n [] S there = refl
refers-deletes a n (x ∷ xs) S there =
    both (is_inserted S x) (refers S (ops_from a (n + 1) (deletes_of xs))) (is_inserted-there S x (there x (inl refl)))
    (refers-deletes a (n + 1) xs S (λ y i. there y (inr i)))

refers-run : (a : Actor) (n : ℕ) (after : Place) (text : List ℕ) (S : List Insert) → is_reference S after ≡ true → refers S (run a n after text) ≡ true
refers-run a n after [] S h = refl
refers-run a n after (ch ∷ text) S h =
    let x = element (id_of a n) after ch in
    both (is_reference S after) (refers (x ∷ S) (run a (n + 1) (After (id_of a n)) text)) h
    (refers-run a (n + 1) (After (id_of a n)) text (x ∷ S) (is_inserted-member (x ∷ S) x (inl refl)))

place_is_there : (S F : List Insert) (p : Place) → AllIn F S → EndsAt F p → is_reference S p ≡ true
place_is_there S F Start sub ends = refl
place_is_there S F (After r) sub (A, f, is, names) =
    ap (is_inserted S) (sym names) ∙ is_inserted-member S f (sub f (subst (In f) (sym is) (In-last f A)))

-- ---- what operations leave

-- The operations lead from a text that is ready to one that is ready for the counter m, whose visible elements are W.
pub record Transforms (T L : List Insert) (R : List (OpId × OpId)) (a : Actor) (n : ℕ) (ops : List Op) (m : ℕ) (M W : List Insert) : Type 0 where
  pub refers : refers T ops ≡ true
  pub ready : IsEditable (T ++ inserts_in ops) M (R ++ deletes_in ops) a m
  pub shows : visible_of (R ++ deletes_in ops) M ≡ W

pub Transforms-join : (T L : List Insert) (R : List (OpId × OpId)) (a : Actor) (n : ℕ) (xs : List Op) (m : ℕ) (M W : List Insert) (ys : List Op) (k : ℕ) (N X : List Insert) → Transforms T L R a n xs m M W → Transforms (T ++ inserts_in xs) M (R ++ deletes_in xs) a m ys k N X → Transforms T L R a n (xs ++ ys) k N X
Transforms-join T L R a n xs m M W ys k N X p q =
    let members : (T ++ inserts_in xs) ++ inserts_in ys ≡ T ++ inserts_in (xs ++ ys) =
    append_assoc T (inserts_in xs) (inserts_in ys) ∙ ap (λ l. T ++ l) (sym (inserts_in-append xs ys)) in
    let named : (R ++ deletes_in xs) ++ deletes_in ys ≡ R ++ deletes_in (xs ++ ys) =
    append_assoc R (deletes_in xs) (deletes_in ys) ∙ ap (λ l. R ++ l) (sym (deletes_in-append xs ys)) in
    record {
      refers = refers-join xs ys T p.refers q.refers;
      ready = subst (λ S. IsEditable S N (R ++ deletes_in (xs ++ ys)) a k) members (subst (λ D. IsEditable ((T ++ inserts_in xs) ++ inserts_in ys) N D a k) named q.ready);
      shows = ap (λ D. visible_of D N) (sym named) ∙ q.shows;
    }

-- ---- one splice

visible_of-there : (T L : List Insert) (R : List (OpId × OpId)) → IsInOrder T L → (e : Insert) → In e (visible_of R L) → IsThere T e.id
visible_of-there T L R order e i =
    IsThere-member T e (order.same.back e (In-filter (λ (x : Insert). not (is_removed R x.id)) L e i).0)

ids-there : (T W : List Insert) → ((e : Insert) → In e W → IsThere T e.id) → (x : OpId) → In x (ids_of W) → IsThere T x
ids-there T [] there x i = absurd i
ids-there T (e ∷ W) there x (inl i) = subst (IsThere T) (sym i) (there e (inl refl))
ids-there T (e ∷ W) there x (inr i) = ids-there T W (λ f j. there f (inr j)) x i

-- no delete of elements that are there names a new identifier
none_named : (T : List Insert) (R : List (OpId × OpId)) (a : Actor) (n k : ℕ) → IsAboveAll T (id_of a n) → ((r : OpId × OpId) → In r R → IsThere T r.0) → n ≤ k → is_removed R (id_of a k) ≡ false
none_named T [] a n k above named le = refl
none_named T (r ∷ R) a n k above named le =
    let there = named r (inl refl) in
    let e = element r.0 there.0 there.1.0 in
    ap (λ b. b || is_removed R (id_of a k)) (IsFresh-under T a n above e there.1.1 k le)
    ∙ none_named T R a n k above (λ q i. named q (inr i)) le

-- a delete of each element between A and B leaves A and B
deletes_leave : (T L : List Insert) (R : List (OpId × OpId)) (a : Actor) (n : ℕ) (A X B : List Insert) → IsEditable T L R a n → visible_of R L ≡ A ++ (X ++ B) → Transforms T L R a n (ops_from a n (deletes_of (ids_of X))) (n + length X) L (A ++ B)
deletes_leave T L R a n A X B ready shows =
    let xs = ids_of X in
    let ops = ops_from a n (deletes_of xs) in
    let there : (x : OpId) → In x xs → IsThere T x =
    ids-there T X (λ e i. visible_of-there T L R ready.order e (subst (In e) (sym shows) (In-right e A (X ++ B) (In-left e X B i)))) in
    let none : inserts_in ops ≡ [] = inserts_in-deletes a n xs in
    let members : T ≡ T ++ inserts_in ops = sym (ap (λ l. T ++ l) none ∙ append-nil T) in
    let apart = IdsApart-filter (λ (x : Insert). not (is_removed R x.id)) L (present_once T L ready.tree ready.order) in
    record {
      refers = refers-deletes a n xs T there;
      ready = subst (λ S. IsEditable S L (R ++ deletes_in ops) a (n + length X)) members (record {
        tree = ready.tree;
        order = ready.order;
        above = λ e i. above_later T a n (length X) ready.above e i;
        targets = λ r i. elim (In-append r R (deletes_in ops) i) [
          | inl old ↦ ready.targets r old
          | inr new ↦ there r.0 (named_from-target a n xs r new)
        ];
      });
      shows =
          visible_of-append R (deletes_in ops) L ∙ ap (visible_of (deletes_in ops)) shows
          ∙ shown_cut a n A X B (subst Rattle.tp_opid.specs.Tree.IdsApart shows apart);
    }
  where
    above_later : (T : List Insert) (a : Actor) (n k : ℕ) → IsAboveAll T (id_of a n) → IsAboveAll T (id_of a (n + k))
    above_later T a n zero above = subst (λ m. IsAboveAll T (id_of a m)) (let e : n ≡ n + 0 = omega arith in e) above
    above_later T a n (suc k) above =
        λ e i. Below-trans e.id (id_of a n) (id_of a (n + suc k)) (above e i) (Below-counter (id_of a n) (id_of a (n + suc k)) (omega arith))

-- a run after the last of A comes directly after A
run_leaves : (T L : List Insert) (R : List (OpId × OpId)) (a : Actor) (n : ℕ) (A B : List Insert) (text : List ℕ) → IsEditable T L R a n → visible_of R L ≡ A ++ B → (M : List Insert) × Transforms T L R a n (run a n (after_last Start (ids_of A)) text) (n + length text) M (A ++ (elements_of_run a n (after_last Start (ids_of A)) text ++ B))
run_leaves T L R a n A B text ready shows =
    let after = after_last Start (ids_of A) in
    let es = elements_of_run a n after text in
    let parts = split_shown R L A B shows in
    let F = parts.0 in
    let G = parts.1 in
    let order : IsInOrder T (F ++ G) = subst (IsInOrder T) parts.2 ready.order in
    let put = run_in_order text T F G a n after ready.tree order parts.5 ready.above in
    let keep = λ (x : Insert). not (is_removed R x.id) in
    let new : visible_of R es ≡ es = shown_kept R es (λ e i.
    let c = run-counter a n after text e i in
    ap (is_removed R) c.2 ∙ none_named T R a n c.0 ready.above ready.targets c.1) in
    let same : R ++ deletes_in (run a n after text) ≡ R = ap (λ l. R ++ l) (deletes_in-run a n after text) ∙ append-nil R in (
      F ++ (es ++ G),
      record {
        refers = refers-run a n after text T (place_is_there T F after (λ e i. order.same.back e (In-left e F G i)) parts.5);
        ready = record {
          tree = put.0;
          order = put.1;
          above = put.2;
          targets = λ r i. IsThere-grow T (T ++ es) (λ e j. In-left e T es j) r.0 (ready.targets r (subst (In r) same i));
        };
        shows =
            ap (λ D. visible_of D (F ++ (es ++ G))) same
            ∙ Rattle.std.proofs.lemmas.List.Elements.filter-append keep F (es ++ G)
            ∙ ap (λ l. visible_of R F ++ l) (Rattle.std.proofs.lemmas.List.Elements.filter-append keep es G)
            ∙ ap (λ l. l ++ (visible_of R es ++ visible_of R G)) parts.3
            ∙ ap (λ l. A ++ (l ++ visible_of R G)) new
            ∙ ap (λ l. A ++ (es ++ l)) parts.4;
      },
    )

-- what the operations of some splices leave: visible elements with the identifiers V and the characters t
record Splices (T L : List Insert) (R : List (OpId × OpId)) (a : Actor) (n : ℕ) (ops : List Op) (m : ℕ) (V : List OpId) (t : List ℕ) : Type 0 where
  pub placed : List Insert
  pub visible : List Insert
  pub leaves : Transforms T L R a n ops m placed visible
  pub ids : ids_of visible ≡ V
  pub text : chars_of visible ≡ t

-- the operations of removals and what comes after them are those of a delete of each element, and then the same
ops_from-removed : (a : Actor) (n : ℕ) (xs : List OpId) (rs : List Record) → ops_from a n (removals_of xs ++ rs) ≡ ops_from a n (deletes_of xs ++ rs)
ops_from-removed a n xs rs =
    let count : operations.count_of (removals_of xs) ≡ operations.count_of (deletes_of xs) = count-removals xs ∙ sym (count-deletes xs) in
    ops_from-append a n (removals_of xs) rs
    ∙ ap (λ l. l ++ ops_from a (n + operations.count_of (removals_of xs)) rs) (ops_from-removals a n xs)
    ∙ ap (λ k. ops_from a n (deletes_of xs) ++ ops_from a (n + k) rs) count
    ∙ sym (ops_from-append a n (deletes_of xs) rs)

-- how many records one splice has operations
pub count-splice : (V : List OpId) (s : Splice) → IsInRange (length V) s → operations.count_of (records_of_splice V s) ≡ count_of_splice s
count-splice V s range =
    let xs = take s.del (drop s.at V) in
    let after = after_last Start (take s.at V) in
    let whole = count-append (removals_of xs) (runs_of after (inserted_chars s)) in
    let size = length-take-le s.del (drop s.at V) (let rest = length-drop s.at V in omega (arith, rest)) in
    omega (arith, whole, count-removals xs, count-runs after (inserted_chars s), size)

-- one splice
splice_leaves : (T L : List Insert) (R : List (OpId × OpId)) (a : Actor) (n : ℕ) (s : Splice) → IsEditable T L R a n → IsInRange (length (visible_of R L)) s → Splices T L R a n (ops_from a n (records_of_splice (ids_of (visible_of R L)) s)) (n + count_of_splice s) (ids_after a n (ids_of (visible_of R L)) s) (splice_at (chars_of (visible_of R L)) s.at s.del (inserted_chars s))
splice_leaves T L R a n s ready range =
    let id = λ (e : Insert). e.id in
    let ch = λ (e : Insert). e.ch in
    let W = visible_of R L in
    let V = ids_of W in
    let text = inserted_chars s in
    let A = take s.at W in
    let X = take s.del (drop s.at W) in
    let B = drop (s.at + s.del) W in
    let split : W ≡ A ++ (X ++ B) =
    sym (ap (λ l. A ++ (X ++ l)) (sym (drop-drop s.del s.at W)) ∙ ap (λ l. A ++ l) (take-append-drop s.del (drop s.at W)) ∙ take-append-drop s.at W) in
    let size : length X ≡ s.del = length-take-le s.del (drop s.at W) (let rest = length-drop s.at W in omega (arith, rest)) in
    let prefix : take s.at V ≡ ids_of A = take-map id s.at W in
    let middle : take s.del (drop s.at V) ≡ ids_of X = ap (take s.del) (drop-map id s.at W) ∙ take-map id s.del (drop s.at W) in
    let back : drop (s.at + s.del) V ≡ ids_of B = drop-map id (s.at + s.del) W in
    let after = after_last Start (ids_of A) in
    let cut = ops_from a n (deletes_of (ids_of X)) in
    let p = deletes_leave T L R a n A X B ready split in
    let q = run_leaves (T ++ inserts_in cut) L (R ++ deletes_in cut) a (n + length X) A B text p.ready p.shows in
    let put = run a (n + length X) after text in
    let es = elements_of_run a (n + length X) after text in
    let joined = Transforms-join T L R a n cut (n + length X) L (A ++ B) put ((n + length X) + length text) q.0 (A ++ (es ++ B)) p q.1 in
    let counter : operations.count_of (deletes_of (ids_of X)) ≡ length X = count-deletes (ids_of X) ∙ length-map X id in
    let ops : cut ++ put ≡ ops_from a n (records_of_splice V s) =
    ap (λ l. cut ++ l) (sym (ap (λ m. ops_from a (n + m) (runs_of after text)) counter ∙ ops_from-runs a (n + length X) after text))
    ∙ sym (ops_from-append a n (deletes_of (ids_of X)) (runs_of after text))
    ∙ ap (λ xs. ops_from a n (deletes_of xs ++ runs_of after text)) (sym middle)
    ∙ ap (λ xs. ops_from a n (deletes_of (take s.del (drop s.at V)) ++ runs_of (after_last Start xs) text)) (sym prefix)
    ∙ sym (ops_from-removed a n (take s.del (drop s.at V)) (runs_of (after_last Start (take s.at V)) text)) in
    let end : (n + length X) + length text ≡ n + count_of_splice s = omega (arith, size) in
    record {
      placed = q.0;
      visible = A ++ (es ++ B);
      leaves =
          subst (λ m. Transforms T L R a n (ops_from a n (records_of_splice V s)) m q.0 (A ++ (es ++ B))) end
          (subst (λ o. Transforms T L R a n o ((n + length X) + length text) q.0 (A ++ (es ++ B))) ops joined);
      ids =
          map-append id A (es ++ B) ∙ ap (λ l. ids_of A ++ l) (map-append id es B)
          ∙ ap (λ l. l ++ (ids_of es ++ ids_of B)) (sym prefix)
          ∙ ap (λ l. take s.at V ++ (l ++ ids_of B)) (ids_of-run a (n + length X) after text ∙ ap (λ k. ids_from a (n + k) (length text)) size)
          ∙ ap (λ l. take s.at V ++ (ids_from a (n + s.del) (length text) ++ l)) (sym back);
      text =
          map-append ch A (es ++ B) ∙ ap (λ l. chars_of A ++ l) (map-append ch es B)
          ∙ ap (λ l. l ++ (chars_of es ++ chars_of B)) (sym (take-map ch s.at W))
          ∙ ap (λ l. take s.at (chars_of W) ++ (l ++ chars_of B)) (chars_of-run a (n + length X) after text)
          ∙ ap (λ l. take s.at (chars_of W) ++ (text ++ l)) (sym (drop-map ch (s.at + s.del) W));
    }

-- the next splices, after what the first ones leave
then_leave : (T L : List Insert) (R : List (OpId × OpId)) (a : Actor) (n : ℕ) (ops : List Op) (m : ℕ) (V : List OpId) (t : List ℕ) (first : Splices T L R a n ops m V t) (ss : List Splice) (k : ℕ)
    → Splices (T ++ inserts_in ops) first.placed (R ++ deletes_in ops) a m (ops_of_edit a m first.placed (R ++ deletes_in ops) ss) k
    (ids_after_all a m (ids_of (visible_of (R ++ deletes_in ops) first.placed)) ss) (all_spliced (chars_of (visible_of (R ++ deletes_in ops) first.placed)) ss)
    → Splices T L R a n (ops ++ ops_from a m (records_of_edit a m V ss)) k (ids_after_all a m V ss) (all_spliced t ss)
then_leave T L R a n ops m V t first ss k rest =
    let there : ids_of (visible_of (R ++ deletes_in ops) first.placed) ≡ V = ap ids_of first.leaves.shows ∙ first.ids in
    let chars : chars_of (visible_of (R ++ deletes_in ops) first.placed) ≡ t = ap chars_of first.leaves.shows ∙ first.text in
    let more : Splices (T ++ inserts_in ops) first.placed (R ++ deletes_in ops) a m (ops_from a m (records_of_edit a m V ss)) k (ids_after_all a m V ss) (all_spliced t ss) =
    subst (λ x. Splices (T ++ inserts_in ops) first.placed (R ++ deletes_in ops) a m (ops_from a m (records_of_edit a m V ss)) k (ids_after_all a m V ss) (all_spliced x ss)) chars
    (subst (λ U. Splices (T ++ inserts_in ops) first.placed (R ++ deletes_in ops) a m (ops_from a m (records_of_edit a m U ss)) k (ids_after_all a m U ss) (all_spliced (chars_of (visible_of (R ++ deletes_in ops) first.placed)) ss)) there rest) in
    record {
      placed = more.placed;
      visible = more.visible;
      leaves = Transforms-join T L R a n ops m first.placed first.visible (ops_from a m (records_of_edit a m V ss)) k more.placed more.visible first.leaves more.leaves;
      ids = more.ids;
      text = more.text;
    }

-- how long the text is after the first splice
length_after : (T L : List Insert) (R : List (OpId × OpId)) (a : Actor) (n : ℕ) (ops : List Op) (m : ℕ) (s : Splice) (V : List OpId) (first : Splices T L R a n ops m V (splice_at (chars_of (visible_of R L)) s.at s.del (inserted_chars s)))
    → IsInRange (length (visible_of R L)) s → length (visible_of R L) - s.del + length (inserted_chars s) ≡ length (visible_of (R ++ deletes_in ops) first.placed)
length_after T L R a n ops m s V first range =
    let e = length-map (visible_of R L) (λ (x : Insert). x.ch) in
    let f = length-map (visible_of (R ++ deletes_in ops) first.placed) (λ (x : Insert). x.ch) in
    let within : s.at + s.del ≤ length (chars_of (visible_of R L)) = omega (arith, range, e) in
    let g = ap length (ap chars_of first.leaves.shows ∙ first.text) in
    let h = length-splice_at (chars_of (visible_of R L)) s.at s.del (inserted_chars s) within in
    omega (arith, e, f, g, h)

-- all splices
all_leave : (ss : List Splice) (T L : List Insert) (R : List (OpId × OpId)) (a : Actor) (n : ℕ) → IsEditable T L R a n → AllInRange (length (visible_of R L)) ss → Splices T L R a n (ops_of_edit a n L R ss) (n + total_count ss) (ids_after_all a n (ids_of (visible_of R L)) ss) (all_spliced (chars_of (visible_of R L)) ss)
all_leave [] T L R a n ready range =
    let members : T ≡ T ++ [] = sym (append-nil T) in
    let named : R ≡ R ++ [] = sym (append-nil R) in
    record {
      placed = L;
      visible = visible_of R L;
      leaves = record {
        refers = refl;
        ready = subst (λ S. IsEditable S L (R ++ []) a (n + 0)) members (subst (λ D. IsEditable T L D a (n + 0)) named (subst (IsEditable T L R a) (let e : n ≡ n + 0 = omega arith in e) ready));
        shows = ap (λ D. visible_of D L) (sym named);
      };
      ids = refl;
      text = refl;
    }
all_leave (s ∷ ss) T L R a n ready range =
    let W = visible_of R L in
    let V = ids_of W in
    let first = splice_leaves T L R a n s ready range.0 in
    let rs = records_of_splice V s in
    let ops = ops_from a n rs in
    let M = first.placed in
    let m = n + count_of_splice s in
    let rest = all_leave ss (T ++ inserts_in ops) M (R ++ deletes_in ops) a m first.leaves.ready (subst (λ k. AllInRange k ss) (length_after T L R a n ops m s (ids_after a n V s) first range.0) range.1) in
    let in_ids : s.at + s.del ≤ length V = (let e = length-map W (λ (x : Insert). x.id) in omega (arith, range.0, e)) in
    let all : ops ++ ops_from a m (records_of_edit a m (ids_after a n V s) ss) ≡ ops_of_edit a n L R (s ∷ ss) =
    ap (λ k. ops ++ ops_from a (n + k) (records_of_edit a m (ids_after a n V s) ss)) (sym (count-splice V s in_ids))
    ∙ sym (ops_from-append a n rs (records_of_edit a m (ids_after a n V s) ss)) in
    let end : m + total_count ss ≡ n + total_count (s ∷ ss) = omega arith in
    subst (λ k. Splices T L R a n (ops_of_edit a n L R (s ∷ ss)) k (ids_after_all a n V (s ∷ ss)) (all_spliced (chars_of W) (s ∷ ss))) end
    (subst (λ o. Splices T L R a n o (m + total_count ss) (ids_after_all a n V (s ∷ ss)) (all_spliced (chars_of W) (s ∷ ss))) all
    (then_leave T L R a n ops m (ids_after a n V s) (splice_at (chars_of W) s.at s.del (inserted_chars s)) first ss (m + total_count ss) rest))

-- ---- the law

numbered : (a : Actor) (n : ℕ) (rs : List Record) → Numbered a n (ops_from a n rs)
unfolding ops_of
numbered a n rs =
    let c : ChangeParts = record { actor = a; seq = 0; start = n; time = 0; message = []; deps = []; records = rs } in
    Numbered-ops_of c

pub edit_law : EditLaw
edit_law T L R actor n ss ready range =
    let done = all_leave ss T L R actor n ready range in
    let ops = ops_of_edit actor n L R ss in
    let S = T ++ inserts_in ops in
    let D = R ++ deletes_in ops in
    let after = done.leaves.ready in
    let one : (M : List Insert) → IsInOrder S M → done.placed ≡ M = (λ M order. one_order S done.placed M after.tree after.order order) in
    record {
      refers = done.leaves.refers;
      applies = CanApply-refers ops T T actor n (numbered actor n (records_of_edit actor n (ids_of (visible_of R L)) ss)) (λ e i. i) ready.above (IsFresh-under T actor n ready.above) done.leaves.refers;
      ids = λ M order. ap (λ N. ids_of (visible_of D N)) (sym (one M order)) ∙ ap ids_of done.leaves.shows ∙ done.ids;
      text = λ M order. ap (λ N. chars_of (visible_of D N)) (sym (one M order)) ∙ ap chars_of done.leaves.shows ∙ done.text;
      ready = λ M order. subst (λ N. IsEditable S N D actor (n + total_count ss)) (one M order) after;
    }

-- so a sequence that took in the operations shows the text with the splices done
pub Extends-edited : AppliedLaw
Extends-edited T L R actor n ss M ready range extends =
    (edit_law T L R actor n ss ready range).text M (extends.order T ready.tree ready.order).1
