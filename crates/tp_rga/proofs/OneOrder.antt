-- A tree has one list in order; it depends on the set alone, and its parts are in order for parts of the tree.
use Rattle.std.proofs.Common.{◌≡◌, inl, inr, Bool, true, false, not, cond, ◌||◌, List, [], ◌∷◌, ◌++◌, filter, take, drop, insert, refl, sym, ap, ◌∙◌, subst}
use Rattle.std.proofs.lemmas.List.Elements.{filter_agree}
use Rattle.std.proofs.lemmas.List.{take-append-drop}
use Rattle.tp_list.specs.Members.{In, AllIn, SameMembers}
use Rattle.tp_list.proofs.Members.{In-left, In-right, In-append, In-push, In-last, SameMembers-sym, In-filter, filter-In}
use Rattle.tp_opid.specs.declared.op_id.OpId.{OpId}
use Rattle.tp_opid.specs.declared.op_id.Place.{Place}
use Rattle.tp_opid.specs.declared.op_id.Place.TheVariants.{Start, After}
use Rattle.tp_opid.specs.Insert.{Insert}
use Rattle.tp_opid.specs.Same.{id_eq}
use Rattle.tp_opid.specs.Tree.{IsThere, IdsApart, IsAboveAll, HasReference, IsReferenceBelow, IsTree, CanInsert}
use Rattle.tp_opid.proofs.Orders.{Below-asym, id_eq-same, id_eq-apart}
use Rattle.tp_opid.proofs.Trees.{IsThere-member, CanInsert-same, IsTree-push}
use Rattle.tp_rga.specs.Order.{Before, IsSortedIn, IsInOrder, EndsAt, insert_after, IsInserted}
use Rattle.tp_rga.specs.Shown.{is_removed, visible_of}
use Rattle.tp_rga.proofs.Trees.{Descends-grow, Before-irreflexive, Before-trans, Before-cases, Before-chains, chain_exists}
use Rattle.tp_rga.proofs.Orderings.{IsSortedIn-grow, sorted_once}
use Rattle.tp_rga.proofs.Places.{StopsAt, put_in_order}

-- ---- one list for one set

-- a tree has at most one list in order
pub one_order : (S L M : List Insert) → IsTree S → IsInOrder S L → IsInOrder S M → L ≡ M
one_order S L M tree l m = sorted_once S tree L M l.sorted m.sorted (record {
  there = λ e i. m.same.there e (l.same.back e i);
  back = λ e i. l.same.there e (m.same.back e i);
})

-- a list in order for a set is in order for each other list of that set
pub order_of_set : (S T L : List Insert) → SameMembers S T → IsInOrder S L → IsInOrder T L
order_of_set S T L same order = record {
  same = record { there = λ e i. order.same.there e (same.back e i); back = λ e i. same.there e (order.same.back e i) };
  sorted = IsSortedIn-grow S T same.there L order.sorted;
}

-- ---- a tree has a list in order

-- a sorted list with one more element of the tree
sorted_put : (S : List Insert) → IsTree S → (x : Insert) → In x S → (L : List Insert) → AllIn L S → IsSortedIn S L → (M : List Insert) × IsSortedIn S M × SameMembers (x ∷ L) M
sorted_put S tree x i [] of h = (x ∷ [], (λ b j. absurd j, tt), record { there = λ e j. j; back = λ e j. j })
sorted_put S tree x i (a ∷ L) of h =
    elim (Before-cases S tree x.id a.id (IsThere-member S x i) (IsThere-member S a (of a (inl refl)))) as (λ _. (M : List Insert) × IsSortedIn S M × SameMembers (x ∷ a ∷ L) M) [
      | inl b ↦ (
        x ∷ a ∷ L,
        (
          λ e j. elim j as (λ _. Before S x.id e.id) [
            | inl k ↦ subst (λ (w : Insert). Before S x.id w.id) (sym k) b
            | inr k ↦ Before-trans S tree x.id a.id e.id b (h.0 e k)
          ],
          h,
        ),
        record { there = λ e j. j; back = λ e j. j },
      )
      | inr (inl k) ↦
          let same : x ≡ a = tree.once x a i (of a (inl refl)) k in (
            a ∷ L,
            h,
            record {
              there = λ e j. elim j as (λ _. In e (a ∷ L)) [ inl m ↦ inl (m ∙ same) | inr m ↦ m ];
              back = λ e j. inr j;
            },
          )
      | inr (inr b) ↦
          let rest = sorted_put S tree x i L (λ e j. of e (inr j)) h.1 in (
            a ∷ rest.0,
            (
              λ e j. elim (rest.2.back e j) as (λ _. Before S a.id e.id) [
                | inl k ↦ subst (λ (w : Insert). Before S a.id w.id) (sym k) b
                | inr k ↦ h.0 e k
              ],
              rest.1,
            ),
            record {
              there = λ e j. elim j as (λ _. In e (a ∷ rest.0)) [
                | inl k ↦ inr (rest.2.there e (inl k))
                | inr (inl k) ↦ inl k
                | inr (inr k) ↦ inr (rest.2.there e (inr k))
              ];
              back = λ e j. elim j as (λ _. In e (x ∷ a ∷ L)) [
                | inl k ↦ inr (inl k)
                | inr k ↦ elim (rest.2.back e k) as (λ _. In e (x ∷ a ∷ L)) [ inl m ↦ inl m | inr m ↦ inr (inr m) ]
              ];
            },
          )
    ]

-- a part of a tree has a sorted list
sorted_of : (S : List Insert) → IsTree S → (C : List Insert) → AllIn C S → (L : List Insert) × IsSortedIn S L × SameMembers C L
sorted_of S tree [] of = ([], tt, record { there = λ e j. j; back = λ e j. j })
sorted_of S tree (x ∷ C) of =
    let rest = sorted_of S tree C (λ e j. of e (inr j)) in
    let more = sorted_put S tree x (of x (inl refl)) rest.0 (λ e j. of e (inr (rest.2.back e j))) rest.1 in (
      more.0,
      more.1,
      record {
        there = λ e j. more.2.there e (elim j as (λ _. In e (x ∷ rest.0)) [ inl k ↦ inl k | inr k ↦ inr (rest.2.there e k) ]);
        back = λ e j. elim (more.2.back e j) as (λ _. In e (x ∷ C)) [ inl k ↦ inl k | inr k ↦ inr (rest.2.back e k) ];
      },
    )

-- a tree has a list in order
pub order_exists : (S : List Insert) → IsTree S → (L : List Insert) × IsInOrder S L
order_exists S tree =
    let l = sorted_of S tree S (λ e j. j) in
    (l.0, record { same = l.2; sorted = l.1 })

-- ---- what the order says of single elements

-- no two elements of a list in order have one identifier
sorted_apart : (S L : List Insert) → IsTree S → IsSortedIn S L → IdsApart L
sorted_apart S [] tree h = tt
sorted_apart S (a ∷ L) tree h = (
  λ e i. elim (id_eq e.id a.id) as (λ b. id_eq e.id a.id ≡ b → b ≡ false) [
    | true ↦ λ k. absurd (Before-irreflexive S tree a.id (subst (λ w. Before S a.id w) (id_eq-same e.id a.id k) (h.0 e i)))
    | false ↦ λ k. refl
  ] refl,
  sorted_apart S L tree h.1,
)

-- in a list in order each element is there once
pub present_once : (S L : List Insert) → IsTree S → IsInOrder S L → IdsApart L
present_once S L tree order = sorted_apart S L tree order.sorted

-- ---- parts of a tree

-- two elements are ordered in a part that is a tree as they are in the whole
pub Before-part : (S T : List Insert) → IsTree S → IsTree T → AllIn T S → (x y : OpId) → IsThere T x → IsThere T y → Before S x y → Before T x y
Before-part S T tree part of x y i j h =
    let c = chain_exists T part x i in
    let d = chain_exists T part y j in
    (c.0, d.0, c.1, d.1, Before-chains S tree x y h c.0 d.0 (Descends-grow T S of Start c.0 (After x) c.1) (Descends-grow T S of Start d.0 (After y) d.1))

-- a part of a sorted list is sorted in the part of the tree
sorted_part : (S T : List Insert) (keep : Insert → Bool) → IsTree S → IsTree T → AllIn T S → (L : List Insert) → ((e : Insert) → In e L → keep e ≡ true → In e T) → IsSortedIn S L → IsSortedIn T (filter keep L)
sorted_part S T keep tree part of [] kept h = tt
sorted_part S T keep tree part of (a ∷ L) kept h =
    let rest : IsSortedIn T (filter keep L) = sorted_part S T keep tree part of L (λ e i. kept e (inr i)) h.1 in
    elim (keep a) as (λ b. keep a ≡ b → IsSortedIn T (cond b (a ∷ filter keep L) (filter keep L))) [
      | true ↦ λ k. (
        λ e i.
            let j = In-filter keep L e i in
            Before-part S T tree part of a.id e.id (IsThere-member T a (kept a (inl refl) k)) (IsThere-member T e (kept e (inr j.0) j.1)) (h.0 e j.0),
        rest,
      )
      | false ↦ λ k. rest
    ] refl

-- a part of a tree by a test, itself a tree, is in order in that part of the list
pub order_of_part : (S L : List Insert) (keep : Insert → Bool) → IsTree S → IsTree (filter keep S) → IsInOrder S L → IsInOrder (filter keep S) (filter keep L)
order_of_part S L keep tree part order = record {
  same = record {
    there = λ e i. let j = In-filter keep S e i in filter-In keep L e (order.same.there e j.0) j.1;
    back = λ e i. let j = In-filter keep L e i in filter-In keep S e (order.same.back e j.0) j.1;
  };
  sorted = sorted_part S (filter keep S) keep tree part (λ e i. (In-filter keep S e i).0) L (λ e i k. filter-In keep S e (order.same.back e i) k) order.sorted;
}

-- ---- the greatest identifier

-- a list with an element put in after a place, as its two parts
insert_after-parts : (p : Place) (x : Insert) (L : List Insert) → HasReference L p → (F : List Insert) × (B : List Insert) × (L ≡ F ++ B) × EndsAt F p × (insert_after p x L ≡ F ++ x ∷ B)
insert_after-parts Start x L h = ([], L, refl, refl, refl)
insert_after-parts (After r) x [] h = absurd h.1.1
insert_after-parts (After r) x (e ∷ L) h =
    elim (id_eq e.id r) as (λ b. id_eq e.id r ≡ b → (F : List Insert) × (B : List Insert) × (e ∷ L ≡ F ++ B) × EndsAt F (After r) × (cond b (e ∷ x ∷ L) (e ∷ insert_after (After r) x L) ≡ F ++ x ∷ B)) [
      | true ↦ λ k. (e ∷ [], L, refl, ([], e, refl, id_eq-same e.id r k), refl)
      | false ↦ λ k.
          let beyond : HasReference L (After r) = (
            h.0,
            (
              h.1.0,
              elim h.1.1 as (λ _. In (record { id = r; after = h.0; ch = h.1.0 }) L) [
                | inl i ↦ absurd (id_eq-apart e.id r k (sym (ap (λ (w : Insert). w.id) i)))
                | inr i ↦ i
              ],
            ),
          ) in
          let rest = insert_after-parts (After r) x L beyond in
          (e ∷ rest.0, rest.1, ap (λ z. e ∷ z) rest.2, (e ∷ rest.3.0, rest.3.1, ap (λ z. e ∷ z) rest.3.2, rest.3.3), ap (λ z. e ∷ z) rest.4)
    ] refl

-- a place that may be inserted after is there
has_place : (S : List Insert) (x : OpId) (p : Place) → IsReferenceBelow S x p → HasReference S p
has_place S x Start h = tt
has_place S x (After r) h = h.0

-- an identifier above all others is directly after its reference
pub greatest_next : (S L : List Insert) (x : Insert) → IsTree S → IsInOrder S L → CanInsert S x.id x.after → IsAboveAll S x.id → IsInOrder (S ++ x ∷ []) (insert_after x.after x L)
greatest_next S L x tree order can above =
    let parts = insert_after-parts x.after x L (has_place L x.id x.after (CanInsert-same S L order.same x.id x.after can).place) in
    let stops : (B : List Insert) → AllIn B L → StopsAt x.id B = greatest_stops S L x order.same.back above in
    subst (IsInOrder (S ++ x ∷ [])) (sym parts.4)
    (put_in_order S parts.0 [] parts.1 x tree (subst (IsInOrder S) parts.2 order) can parts.3 (λ e i. absurd i)
    (stops parts.1 (λ e i. subst (In e) (sym parts.2) (In-right e parts.0 parts.1 i))))
  where
    greatest_stops : (S L : List Insert) (x : Insert) → AllIn L S → IsAboveAll S x.id → (B : List Insert) → AllIn B L → StopsAt x.id B
    greatest_stops S L x of above [] part = tt
    greatest_stops S L x of above (h ∷ B) part = λ b. Below-asym x.id h.id b (above h (of h (part h (inl refl))))

-- so the list with an insert of such an identifier is known
pub greatest_inserted : (S old new : List Insert) (x : Insert) → IsTree S → IsInOrder S old → CanInsert S x.id x.after → IsAboveAll S x.id → IsInserted old new x → new ≡ insert_after x.after x old
greatest_inserted S old new x tree order can above put =
    one_order (S ++ x ∷ []) new (insert_after x.after x old) (IsTree-push S x tree can) (put.order S tree order) (greatest_next S old x tree order can above)

-- ---- what an insert leaves

-- the members after an insert
pub inserted_members : (old new : List Insert) (x : Insert) → IsInserted old new x → SameMembers (old ++ x ∷ []) new
inserted_members old new x inserted =
    let i = inserted.put.0 in
    let whole : take i old ++ drop i old ≡ old = take-append-drop i old in
    let is = inserted.put.2 in
    record {
      there = λ e j. subst (In e) (sym is) (elim (In-push e old x j) as (λ _. In e (insert old i x)) [
        | inl k ↦ elim (In-append e (take i old) (drop i old) (subst (In e) (sym whole) k)) as (λ _. In e (insert old i x)) [
          | inl m ↦ In-left e (take i old) (x ∷ drop i old) m
          | inr m ↦ In-right e (take i old) (x ∷ drop i old) (inr m)
        ]
        | inr k ↦ In-right e (take i old) (x ∷ drop i old) (inl k)
      ]);
      back = λ e j. elim (In-append e (take i old) (x ∷ drop i old) (subst (In e) is j)) as (λ _. In e (old ++ x ∷ [])) [
        | inl k ↦ In-left e old (x ∷ []) (subst (In e) whole (In-left e (take i old) (drop i old) k))
        | inr (inl k) ↦ subst (λ w. In w (old ++ x ∷ [])) (sym k) (In-last x old)
        | inr (inr k) ↦ In-left e old (x ∷ []) (subst (In e) whole (In-right e (take i old) (drop i old) k))
      ];
    }

-- the new element is there
pub inserted_there : (old new : List Insert) (x : Insert) → IsInserted old new x → IsThere new x.id
inserted_there old new x inserted = IsThere-member new x ((inserted_members old new x inserted).there x (In-last x old))

-- ---- what is shown

-- what is deleted some delete names
pub is_removed-by : (R : List (OpId × OpId)) (x : OpId) → is_removed R x ≡ true → (r : OpId × OpId) × In r R × (id_eq r.0 x ≡ true)
is_removed-by [] x e = cc
is_removed-by (r ∷ R) x e =
    elim (id_eq r.0 x) as (λ b. id_eq r.0 x ≡ b → (b || is_removed R x) ≡ true → (s : OpId × OpId) × In s (r ∷ R) × (id_eq s.0 x ≡ true)) [
      | true ↦ λ k h. (r, inl refl, k)
      | false ↦ λ k h. let rest = is_removed-by R x h in (rest.0, inr rest.1, rest.2)
    ] refl e

-- what a delete names is deleted
pub removed_by_member : (R : List (OpId × OpId)) (x : OpId) (r : OpId × OpId) → In r R → id_eq r.0 x ≡ true → is_removed R x ≡ true
removed_by_member [] x r i e = absurd i
removed_by_member (s ∷ R) x r (inl i) e = ap (λ b. b || is_removed R x) (ap (λ (w : OpId × OpId). id_eq w.0 x) (sym i) ∙ e)
removed_by_member (s ∷ R) x r (inr i) e =
    let rest = removed_by_member R x r i e in
    elim (id_eq s.0 x) as (λ b. (b || is_removed R x) ≡ true) [ true ↦ refl | false ↦ rest ]

-- whether an element is deleted depends on the deletes as a set
pub is_removed-same : (R Q : List (OpId × OpId)) → SameMembers R Q → (x : OpId) → is_removed R x ≡ is_removed Q x
is_removed-same R Q same x =
    elim (is_removed R x) as (λ b. is_removed R x ≡ b → b ≡ is_removed Q x) [
      | true ↦ λ e. let r = is_removed-by R x e in sym (removed_by_member Q x r.0 (same.there r.0 r.1) r.2)
      | false ↦ λ e.
          elim (is_removed Q x) as (λ c. is_removed Q x ≡ c → false ≡ c) [
            | true ↦ λ f. (let r = is_removed-by Q x f in let g : is_removed R x ≡ true = removed_by_member R x r.0 (same.back r.0 r.1) r.2 in cc)
            | false ↦ λ f. refl
          ] refl
    ] refl

-- what is shown depends on the deletes as a set
pub shown_of_set : (R Q : List (OpId × OpId)) (L : List Insert) → SameMembers R Q → visible_of R L ≡ visible_of Q L
shown_of_set R Q L same =
    filter_agree (λ (e : Insert). not (is_removed R e.id)) (λ (e : Insert). not (is_removed Q e.id)) (λ e. ap not (is_removed-same R Q same e.id)) L

-- two lists in order for one set, under one set of deletes, show one text
pub same_text : (S T L M : List Insert) (R Q : List (OpId × OpId)) → IsTree S → SameMembers S T → SameMembers R Q → IsInOrder S L → IsInOrder T M → visible_of R L ≡ visible_of Q M
same_text S T L M R Q tree same deletes l m =
    shown_of_set R Q L deletes ∙ ap (visible_of Q) (one_order S L M tree l (order_of_set T S M (SameMembers-sym S T same) m))
