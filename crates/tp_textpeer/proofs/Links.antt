-- Why a change may follow the changes of a log or not, by what is kept of these.
use Rattle.std.proofs.Common.{◌≡◌, ℕ, ◌+◌, ◌≤◌, Bool, true, false, ◌&&◌, cond, eqb, List, [], ◌∷◌, ◌++◌, length, Option, Some, None, inl, inr, refl, sym, ap, ◌∙◌, subst, arith}
use Rattle.std.proofs.lemmas.Bool.Decides.{nat_tests}
use Rattle.tp_list.specs.Members.{In}
use Rattle.tp_list.proofs.Members.{In-append}
use Rattle.tp_opid.specs.declared.actor.Actor.{Actor}
use Rattle.tp_opid.specs.declared.hash.Hash.{Hash}
use Rattle.tp_opid.specs.declared.op_id.OpId.{OpId}
use Rattle.tp_opid.specs.Insert.{Insert}
use Rattle.tp_opid.specs.Tree.{IsTree, IsAboveAll}
use Rattle.tp_opid.proofs.Orders.{same_actor-same}
use Rattle.tp_layout.specs.declared.parts.ChangeParts.{ChangeParts}
use Rattle.tp_change.specs.ChangeHash.{hash_of}
use Rattle.tp_change.specs.Elements.{inserts, inserts_in, deletes_in, refers, later, next_counter}
use Rattle.tp_change.specs.Operations.{ops_of, op_count, id_of}
use Rattle.tp_change.proofs.Numbered.{Numbered-ops_of}
use Rattle.tp_change.proofs.OpsLaws.{length-ops_of}
use Rattle.tp_change.proofs.ElementLaws.{inserts-push, deletes-push, next_counter-push, refers-same, SameIds-members}
use Rattle.tp_rga.specs.Order.{IsInOrder}
use Rattle.tp_edit.specs.Applying.{Extends}
use Rattle.tp_edit.proofs.Numbered.{IsAboveAll-ops, IsAboveAll-up}
use Rattle.tp_textpeer.specs.declared.error.ShowFault.TheVariants.{NotChain, BadSeq, BadStart, BadReference}
use Rattle.tp_textpeer.specs.Log.{first_actor, last_hash, is_by, depends_on, link_fault}
use Rattle.tp_textpeer.specs.Chain.{Remembers, AllBelowCounter}

pub not_equal : (m n : ℕ) → (m ≡ n → ⊥) → eqb m n ≡ false
not_equal m n h = grind (arith, nat_tests)

pub are_equal : (m n : ℕ) → m ≡ n → eqb m n ≡ true
are_equal m n h = grind (arith, nat_tests)

pub link_not_chain : (C : List ChangeParts) (c : ChangeParts) → (is_by (first_actor C) c.actor && depends_on (last_hash C) c.deps) ≡ false → link_fault C c ≡ Some NotChain
unfolding link_fault
link_not_chain C c chain = rw chain refl

pub link_bad_seq : (C : List ChangeParts) (c : ChangeParts) → (is_by (first_actor C) c.actor && depends_on (last_hash C) c.deps) ≡ true → eqb c.seq (length C + 1) ≡ false → link_fault C c ≡ Some BadSeq
unfolding link_fault
link_bad_seq C c chain seq = rw (chain, seq) refl

pub link_bad_start : (C : List ChangeParts) (c : ChangeParts) → (is_by (first_actor C) c.actor && depends_on (last_hash C) c.deps) ≡ true → eqb c.seq (length C + 1) ≡ true → eqb c.start (next_counter C) ≡ false → link_fault C c ≡ Some BadStart
unfolding link_fault
link_bad_start C c chain seq start = rw (chain, seq, start) refl

pub link_refers : (C : List ChangeParts) (c : ChangeParts) → (is_by (first_actor C) c.actor && depends_on (last_hash C) c.deps) ≡ true → eqb c.seq (length C + 1) ≡ true → eqb c.start (next_counter C) ≡ true
    → link_fault C c ≡ cond (refers (inserts C) (ops_of c)) None (Some BadReference)
unfolding link_fault
link_refers C c chain seq start = rw (chain, seq, start) refl

-- ---- what is kept of one change more

first_actor-push : (C : List ChangeParts) (c : ChangeParts) → is_by (first_actor C) c.actor ≡ true → Some c.actor ≡ first_actor (C ++ c ∷ [])
first_actor-push [] c h = refl
first_actor-push (d ∷ C) c h = ap Some (sym (same_actor-same d.actor c.actor h))

last_hash-push : (C : List ChangeParts) (c : ChangeParts) → Some (hash_of c) ≡ last_hash (C ++ c ∷ [])
last_hash-push [] c = refl
last_hash-push (d ∷ []) c = refl
last_hash-push (d ∷ e ∷ C) c = last_hash-push (e ∷ C) c

last_counter : (a b : ℕ) → a ≤ b → later a b ≡ b
last_counter a b le = grind (arith, nat_tests)

pub Remembers-push : (C : List ChangeParts) (c : ChangeParts) (L M : List Insert) (R Q : List (OpId × OpId)) (a : Option Actor) (h : Option Hash) (n : ℕ)
    → 1 ≤ c.start → is_by a c.actor ≡ true → c.start ≡ n → Remembers C L R a h n → Extends L M (ops_of c) → Q ≡ R ++ deletes_in (ops_of c)
    → Remembers (C ++ c ∷ []) M Q (Some c.actor) (Some (hash_of c)) (c.start + op_count c)
Remembers-push C c L M R Q a h n from by start kept grown removed =
    let put = grown.order (inserts C) kept.tree kept.order in
    record {
      tree = subst IsTree (sym (inserts-push C c)) put.0;
      order = subst (λ l. IsInOrder l M) (sym (inserts-push C c)) put.1;
      removals = removed ∙ ap (λ l. l ++ deletes_in (ops_of c)) kept.removals ∙ sym (deletes-push C c);
      author = first_actor-push C c (subst (λ o. is_by o c.actor ≡ true) kept.author by);
      last = last_hash-push C c;
      next = sym (next_counter-push C c ∙ last_counter (next_counter C) (c.start + op_count c) (let e = kept.next in omega arith));
    }

pub AllBelowCounter-push : (c : ChangeParts) (L M : List Insert) (n : ℕ) → c.start ≡ n → AllBelowCounter L n → Extends L M (ops_of c) → AllBelowCounter M (c.start + op_count c)
AllBelowCounter-push c L M n start below grown a e there =
    let size = length-ops_of c in
    let up : n ≤ c.start + op_count c = omega arith in
    elim (In-append e L (inserts_in (ops_of c)) (grown.members.back e there)) [
      | inl old ↦ IsAboveAll-up L a n (c.start + op_count c) up (below a) e old
      | inr new ↦ subst (λ m. IsAboveAll (inserts_in (ops_of c)) (id_of a m)) (ap (λ m. c.start + m) size) (IsAboveAll-ops (ops_of c) c.actor a c.start (Numbered-ops_of c)) e new
    ]

-- ---- the tests by what is kept

pub chain_test : (C : List ChangeParts) (c : ChangeParts) (L : List Insert) (R : List (OpId × OpId)) (a : Option Actor) (h : Option Hash) (n : ℕ) (b : Bool) → Remembers C L R a h n
    → (is_by a c.actor && depends_on h c.deps) ≡ b → (is_by (first_actor C) c.actor && depends_on (last_hash C) c.deps) ≡ b
chain_test C c L R a h n b kept e =
    subst (λ o. (is_by o c.actor && depends_on (last_hash C) c.deps) ≡ b) kept.author (subst (λ o. (is_by a c.actor && depends_on o c.deps) ≡ b) kept.last e)

pub refers_test : (C : List ChangeParts) (c : ChangeParts) (L : List Insert) (R : List (OpId × OpId)) (a : Option Actor) (h : Option Hash) (n : ℕ) (b : Bool) → Remembers C L R a h n
    → b ≡ refers L (ops_of c) → refers (inserts C) (ops_of c) ≡ b
refers_test C c L R a h n b kept e = refers-same (inserts C) L (ops_of c) (SameIds-members (inserts C) L kept.order.same) ∙ sym e

-- ---- nothing came yet

pub AllBelowCounter-none : (L : List Insert) (n : ℕ) → L ≡ [] → AllBelowCounter L n
AllBelowCounter-none L n none a e there = absurd (subst (In e) none there)

pub Remembers-none : (L : List Insert) (R : List (OpId × OpId)) → L ≡ [] → R ≡ [] → Remembers [] L R None None 1
Remembers-none L R none empty = record {
  tree = record { once = λ a b there. absurd there; placed = λ e there. absurd there };
  order = subst (IsInOrder []) (sym none) (record { same = record { there = λ x h. h; back = λ x h. h }; sorted = tt });
  removals = empty;
  author = refl;
  last = refl;
  next = refl;
}
