-- The elements and the deletes of a past, among those of the whole.
use Rattle.tp_snapshot.proofs.Common.{◌≡◌, ℕ, suc, ◌+◌, ◌<◌, ◌≤◌, inl, inr, List, [], ◌∷◌, length, take, true, None, Some, nat_lt, map, position, refl, ap, ◌∙◌, subst, arith, slice_get, option_map, chars, nat_tests, In, Actor, Hash, OpId, Insert, id_eq, Op, ChangeParts, id_of, ops_of, inserts_in, inserts, deletes_in, deletes, IsInOrder, visible_of, visible_before, In-append, Numbered-ops_of, Numbered, length-ops_of, past, most_changes, Sound, past-In, sound_pasts, inserts-In, chars_of, IsTextOf, DocumentInvariant, HasElementAt, HasLength, HasPosition, end_at, end_of, IsClockOf, shown_by, inserts_tree, SameMembers, IsOwnId, In-left, In-right, In-filter, order_of_set, shown_of_set, length-past, In-inserts, has_op, inserts_by, deletes_by, op_id, SameMembers-sym, filter-In, order_of_part, Option, encode_utf8_all, IsTree, IsTree-same}
use Rattle.tp_change.specs.declared.op.Op.TheVariants as op_of
use Rattle.tp_snapshot.proofs.ShowingLaws.{DocumentInvariant-bytes, DocumentInvariant-element, DocumentInvariant-length}
use Rattle.tp_snapshot.proofs.EndLaws.{below_end, in_past}

-- ---- the identifiers of a change's inserts and deletes are its own

insert_id : (ops : List Op) (e : Insert) → In e (inserts_in ops) → In e.id (map op_id ops)
insert_id [] e i = absurd i
insert_id (op_of.Insert id after ch ∷ ops) e (inl same) = inl (ap (λ (x : Insert). x.id) same)
insert_id (op_of.Insert id after ch ∷ ops) e (inr i) = inr (insert_id ops e i)
insert_id (op_of.Delete id target ∷ ops) e i = inr (insert_id ops e i)

delete_id : (ops : List Op) (r : OpId × OpId) → In r (deletes_in ops) → In r.1 (map op_id ops)
delete_id [] r i = absurd i
delete_id (op_of.Insert id after ch ∷ ops) r i = inr (delete_id ops r i)
delete_id (op_of.Delete id target ∷ ops) r (inl same) = inl (ap (λ (x : OpId × OpId). x.1) same)
delete_id (op_of.Delete id target ∷ ops) r (inr i) = inr (delete_id ops r i)

-- where an identifier lies
record IsFrom (a : Actor) (n m : ℕ) (id : OpId) : Type 0 where
  actor : id.actor ≡ a
  from : n ≤ id.counter
  to : id.counter < m

from_first : (a : Actor) (n k : ℕ) (x id : OpId) → x ≡ id → id ≡ id_of a n → IsFrom a n (n + suc k) x
from_first a n k x id same is =
    let at : x.counter ≡ n = ap (λ (y : OpId). y.counter) (same ∙ is) in
    record { actor = ap (λ (y : OpId). y.actor) (same ∙ is); from = omega arith; to = omega arith }

from_rest : (a : Actor) (n k : ℕ) (x : OpId) → IsFrom a (n + 1) (n + 1 + k) x → IsFrom a n (n + suc k) x
from_rest a n k x w =
    let from : n + 1 ≤ x.counter = w.from in
    let to : x.counter < n + 1 + k = w.to in
    record { actor = w.actor; from = omega arith; to = omega arith }

ids_from : (a : Actor) (n : ℕ) (ops : List Op) (x : OpId) → Numbered a n ops → In x (map op_id ops) → IsFrom a n (n + length ops) x
ids_from a n [] x h i = absurd i
ids_from a n (op_of.Insert id after ch ∷ ops) x h (inl e) = from_first a n (length ops) x id e h.0
ids_from a n (op_of.Insert id after ch ∷ ops) x h (inr i) = from_rest a n (length ops) x (ids_from a (n + 1) ops x h.1 i)
ids_from a n (op_of.Delete id target ∷ ops) x h (inl e) = from_first a n (length ops) x id e h.0
ids_from a n (op_of.Delete id target ∷ ops) x h (inr i) = from_rest a n (length ops) x (ids_from a (n + 1) ops x h.1 i)

own_id : (c : ChangeParts) (x : OpId) → In x (map op_id (ops_of c)) → IsOwnId c x
own_id c x i =
    let w = ids_from c.actor c.start (ops_of c) x (Numbered-ops_of c) i in
    record { actor = w.actor; from = w.from; to = subst (λ k. x.counter < c.start + k) (length-ops_of c) w.to }

-- ---- the deletes of changes

pub In-deletes : (C : List ChangeParts) (c : ChangeParts) (r : OpId × OpId) → In c C → In r (deletes_in (ops_of c)) → In r (deletes C)
In-deletes [] c r i j = absurd i
In-deletes (d ∷ C) c r (inl e) j = In-left r (deletes_in (ops_of d)) (deletes C) (subst (λ y. In r (deletes_in (ops_of y))) e j)
In-deletes (d ∷ C) c r (inr i) j = In-right r (deletes_in (ops_of d)) (deletes C) (In-deletes C c r i j)

pub deletes-In : (C : List ChangeParts) (r : OpId × OpId) → In r (deletes C) → (c : ChangeParts) × In c C × In r (deletes_in (ops_of c))
deletes-In [] r i = absurd i
deletes-In (d ∷ C) r i =
    elim (In-append r (deletes_in (ops_of d)) (deletes C) i) [
      | inl l ↦ (d, inl refl, l)
      | inr k ↦ let w = deletes-In C r k in (w.0, inr w.1, w.2)
    ]

-- ---- what a clock keeps

kept_test : (K : List (Actor × ℕ)) (P : List ChangeParts) (id : OpId) → IsClockOf K P → id.counter < end_of P id.actor → has_op K id ≡ true
kept_test K P id ends lt = let e : end_at K id.actor ≡ end_of P id.actor = ends id.actor in below id.counter (end_at K id.actor) (end_of P id.actor) e lt where
  below : (k m n : ℕ) → m ≡ n → k < n → nat_lt k m ≡ true
  below k m n e lt = grind (arith, nat_tests)

test_kept : (K : List (Actor × ℕ)) (P : List ChangeParts) (id : OpId) → IsClockOf K P → has_op K id ≡ true → id.counter < end_of P id.actor
test_kept K P id ends t = let e : end_at K id.actor ≡ end_of P id.actor = ends id.actor in below id.counter (end_at K id.actor) (end_of P id.actor) e t where
  below : (k m n : ℕ) → m ≡ n → nat_lt k m ≡ true → k < n
  below k m n e t = grind (arith, nat_tests)

-- the inserts of the past are those below the ends
pub inserts_of_past : (C : List ChangeParts) (H : List Hash) (K : List (Actor × ℕ)) → Sound C → IsClockOf K (past C H) → SameMembers (inserts_by K (inserts C)) (inserts (past C H))
inserts_of_past C H K s ends = record {
  there = λ e i.
      let w = In-filter (λ (x : Insert). has_op K x.id) (inserts C) e i in
      let v = inserts-In C e w.0 in
      let own = own_id v.0 e.id (insert_id (ops_of v.0) e v.2) in
      In-inserts (past C H) v.0 e (in_past C H v.0 e.id s v.1 own (test_kept K (past C H) e.id ends w.1)) v.2;
  back = λ e i.
      let v = inserts-In (past C H) e i in
      let own = own_id v.0 e.id (insert_id (ops_of v.0) e v.2) in
      filter-In (λ (x : Insert). has_op K x.id) (inserts C) e (In-inserts C v.0 e (past-In C H v.0 v.1) v.2)
      (kept_test K (past C H) e.id ends (below_end (past C H) v.0 e.id v.1 own));
}

-- and so are its deletes
pub deletes_of_past : (C : List ChangeParts) (H : List Hash) (K : List (Actor × ℕ)) → Sound C → IsClockOf K (past C H) → SameMembers (deletes_by K (deletes C)) (deletes (past C H))
deletes_of_past C H K s ends = record {
  there = λ r i.
      let w = In-filter (λ (x : OpId × OpId). has_op K x.1) (deletes C) r i in
      let v = deletes-In C r w.0 in
      let own = own_id v.0 r.1 (delete_id (ops_of v.0) r v.2) in
      In-deletes (past C H) v.0 r (in_past C H v.0 r.1 s v.1 own (test_kept K (past C H) r.1 ends w.1)) v.2;
  back = λ r i.
      let v = deletes-In (past C H) r i in
      let own = own_id v.0 r.1 (delete_id (ops_of v.0) r v.2) in
      filter-In (λ (x : OpId × OpId). has_op K x.1) (deletes C) r (In-deletes C v.0 r (past-In C H v.0 v.1) v.2)
      (kept_test K (past C H) r.1 ends (below_end (past C H) v.0 r.1 v.1 own));
}

-- ---- what the document holds of a past

-- the elements of the past are in order as they are in the whole
pub order_of_past : (C : List ChangeParts) (H : List Hash) (K : List (Actor × ℕ)) (L : List Insert) → Sound C → IsClockOf K (past C H) → IsInOrder (inserts C) L → IsInOrder (inserts (past C H)) (inserts_by K L)
order_of_past C H K L s ends order =
    let P = past C H in
    let same = inserts_of_past C H K s ends in
    let part : IsTree (inserts_by K (inserts C)) = IsTree-same (inserts P) (inserts_by K (inserts C)) (SameMembers-sym (inserts_by K (inserts C)) (inserts P) same) (inserts_tree P (sound_pasts C s H)) in
    order_of_set (inserts_by K (inserts C)) (inserts P) (inserts_by K L) same
    (order_of_part (inserts C) L (λ (x : Insert). has_op K x.id) (inserts_tree C s) part order)

pub DocumentInvariant-past : (C : List ChangeParts) (L : List Insert) (R : List (OpId × OpId)) (H : List Hash) (K : List (Actor × ℕ)) → DocumentInvariant C L R → IsClockOf K (past C H) → DocumentInvariant (past C H) (inserts_by K L) (deletes (past C H))
DocumentInvariant-past C L R H K h ends = record {
  sound = sound_pasts C h.sound H;
  limits = λ c i. h.limits c (past-In C H c i);
  few = let fewer = length-past C H in let few : length C ≤ most_changes = h.few in within (length (past C H)) (length C) fewer few;
  order = order_of_past C H K L h.sound ends h.order;
  deletes = refl;
} where
  within : (m n : ℕ) → m ≤ n → n ≤ most_changes → m ≤ most_changes
  within m n a b = omega arith

-- what is shown of the elements of the past
pub shown_of_past : (C : List ChangeParts) (L : List Insert) (R : List (OpId × OpId)) (H : List Hash) (K : List (Actor × ℕ)) → DocumentInvariant C L R → IsClockOf K (past C H) → shown_by K R L ≡ visible_of (deletes (past C H)) (inserts_by K L)
shown_of_past C L R H K h ends =
    ap (λ Q. visible_of (deletes_by K Q) (inserts_by K L)) h.deletes
    ∙ shown_of_set (deletes_by K (deletes C)) (deletes (past C H)) (inserts_by K L) (deletes_of_past C H K h.sound ends)

pub past-bytes : (C : List ChangeParts) (L : List Insert) (R : List (OpId × OpId)) (H : List Hash) (K : List (Actor × ℕ)) (bytes : List ℕ) → DocumentInvariant C L R → IsClockOf K (past C H)
    → bytes ≡ encode_utf8_all (chars_of (shown_by K R L)) → IsTextOf (past C H) (chars bytes)
past-bytes C L R H K bytes h ends e =
    DocumentInvariant-bytes (past C H) (inserts_by K L) (deletes (past C H)) bytes (DocumentInvariant-past C L R H K h ends)
    (e ∙ ap (λ l. encode_utf8_all (chars_of l)) (shown_of_past C L R H K h ends))

pub past-element : (C : List ChangeParts) (L : List Insert) (R : List (OpId × OpId)) (H : List Hash) (K : List (Actor × ℕ)) (at : ℕ) (o : Option OpId) → DocumentInvariant C L R → IsClockOf K (past C H)
    → o ≡ option_map (λ (e : Insert). e.id) (slice_get (shown_by K R L) at) → HasElementAt (past C H) at o
past-element C L R H K at o h ends e =
    DocumentInvariant-element (past C H) (inserts_by K L) (deletes (past C H)) at o (DocumentInvariant-past C L R H K h ends)
    (e ∙ ap (λ l. option_map (λ (x : Insert). x.id) (slice_get l at)) (shown_of_past C L R H K h ends))

pub past-length : (C : List ChangeParts) (L : List Insert) (R : List (OpId × OpId)) (H : List Hash) (K : List (Actor × ℕ)) (n : ℕ) → DocumentInvariant C L R → IsClockOf K (past C H)
    → n ≡ length (shown_by K R L) → HasLength (past C H) n
past-length C L R H K n h ends e =
    DocumentInvariant-length (past C H) (inserts_by K L) (deletes (past C H)) n (DocumentInvariant-past C L R H K h ends) (e ∙ ap length (shown_of_past C L R H K h ends))

before_of_set : (D Q : List (OpId × OpId)) (M : List Insert) (o : Option ℕ) → SameMembers D Q → option_map (λ i. length (visible_of D (take i M))) o ≡ option_map (λ i. length (visible_of Q (take i M))) o
before_of_set D Q M None same = refl
before_of_set D Q M (Some i) same = ap (λ l. Some (length l)) (shown_of_set D Q (take i M) same)

pub past-position : (C : List ChangeParts) (L : List Insert) (R : List (OpId × OpId)) (H : List Hash) (K : List (Actor × ℕ)) (x : OpId) (o : Option ℕ) → DocumentInvariant C L R → IsClockOf K (past C H)
    → o ≡ visible_before (deletes_by K R) (inserts_by K L) x → HasPosition (past C H) x o
past-position C L R H K x o h ends e =
    let M = inserts_by K L in (
      M,
      order_of_past C H K L h.sound ends h.order,
      e
          ∙ ap (λ Q. visible_before (deletes_by K Q) M x) h.deletes
          ∙ before_of_set (deletes_by K (deletes C)) (deletes (past C H)) M (position (λ (w : Insert). id_eq w.id x) M) (deletes_of_past C H K h.sound ends),
    )
