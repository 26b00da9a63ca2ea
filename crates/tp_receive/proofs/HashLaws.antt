-- Lists of hashes: those of changes, and those that are held.
use Rattle.std.proofs.lemmas.Bool.{cases_lt}
use Rattle.std.proofs.lemmas.List.Folds.{list_any-append, list_any_at, list_any_more, list_any_none}
use Rattle.std.proofs.lemmas.List.Sorted.{searchable_from_sorted}
use Rattle.std.specs.List.Sorted.{IsBinarySearchResult, IsSearchInRange, IsSorted}
use Rattle.std.specs.Ordering.{is_eq}
use Rattle.std.specs.Prelude.{is_ok}
use Rattle.tp_opid.specs.Order.{hash_cmp}
use Rattle.tp_opid.specs.Same.{same_hash}
use Rattle.tp_opid.proofs.Orders.{hash_total}
use Rattle.tp_list.proofs.Tests.{same_test}
use Rattle.std.proofs.Common.{Result, Ok, Err, ⊎_elim, arith}
use Rattle.tp_receive.proofs.Common.{◌≡◌, ℕ, ◌+◌, ◌<◌, List, [], ◌∷◌, ◌++◌, length, Bool, ◌||◌, take, get_or, true, false, cond, inl, inr, refl, sym, ap, ◌∙◌, subst, truth, never, not_true, take_more, Hash, ChangeParts, hash_of, has, hashes, or_cases, among, HashesOnce, held_of, or_left, or_right, EachOnce, has_hash, same_hash-itself, same_hash-same}

-- ---- a hash more

same_hash-turned : (a b : Hash) → same_hash a b ≡ same_hash b a
same_hash-turned a b = same_test (same_hash a b) (same_hash b a) (turned a b) (turned b a) where
  turned : (x y : Hash) → same_hash x y ≡ true → same_hash y x ≡ true
  turned x y e = subst (λ (z : Hash). same_hash z x ≡ true) (same_hash-same x y e) (same_hash-itself x)

pub has_hash-append : (H G : List Hash) (x : Hash) → has_hash (H ++ G) x ≡ (has_hash H x || has_hash G x)
has_hash-append H G x = list_any-append (same_hash x) H G

pub has_hash-push : (H : List Hash) (h x : Hash) → has_hash (H ++ h ∷ []) x ≡ (same_hash h x || has_hash H x)
has_hash-push H h x = has_hash-append H (h ∷ []) x ∙ ap (λ b. has_hash H x || (b || false)) (same_hash-turned x h) ∙ turned (has_hash H x) (same_hash h x) where
  turned : (a b : Bool) → (a || (b || false)) ≡ (b || a)
  turned true true = refl
  turned true false = refl
  turned false true = refl
  turned false false = refl

-- A search by halves finds just the hashes that are there.
pub found_in_order : (hs : List Hash) (h : Hash) (r : Result ℕ ℕ) → IsSorted hash_cmp hs → IsSearchInRange r (length hs)
    → IsBinarySearchResult (λ y. hash_cmp y h) hs r → is_ok r ≡ has_hash hs h
unfolding same_hash
found_in_order hs h (Ok i) sorted lt equal = sym (list_any_at (same_hash h) hs i h lt (same_hash-turned h (get_or hs i h) ∙ ap is_eq (equal h)))
found_in_order hs h (Err i) sorted le parted =
    let around = parted (searchable_from_sorted hash_total (λ x. x) hs h sorted) in
    sym (list_any_none (same_hash h) hs (λ k d lt. same_hash-turned h (get_or hs k d) ∙ ⊎_elim (λ below. ap is_eq (around.0 k d (omega arith) below)) (λ above. ap is_eq (around.1 k d above lt)) (cases_lt k i)))

-- Of two lists the second is put into a set one after another.
pub has_hash-more : (S T U G : List Hash) (i : ℕ) (d x : Hash) → i < length G → has_hash S x ≡ (has_hash T x || has_hash (take i G) x)
    → has_hash U x ≡ (same_hash (get_or G i d) x || has_hash S x) → has_hash U x ≡ (has_hash T x || has_hash (take (i + 1) G) x)
has_hash-more S T U G i d x small so_far added =
    let h = get_or G i d in
    added ∙ ap (λ b. same_hash h x || b) so_far ∙ turned (same_hash h x) (has_hash T x) (has_hash (take i G) x)
    ∙ ap (λ b. has_hash T x || (has_hash (take i G) x || b)) (same_hash-turned h x)
    ∙ sym (ap (λ b. has_hash T x || b) (list_any_more (same_hash x) G i d small)) where
      turned : (a b c : Bool) → (a || (b || c)) ≡ (b || (c || a))
      turned true true c = refl
      turned true false true = refl
      turned true false false = refl
      turned false true c = refl
      turned false false true = refl
      turned false false false = refl

pub hashes-append : (C D : List ChangeParts) → hashes (C ++ D) ≡ hashes C ++ hashes D
hashes-append [] D = refl
hashes-append (c ∷ C) D = ap (λ l. hash_of c ∷ l) (hashes-append C D)

pub among-hashes : (C : List ChangeParts) (h : Hash) → among (hashes C) h ≡ has C h
among-hashes [] h = refl
among-hashes (c ∷ C) h = ap (λ b. same_hash (hash_of c) h || b) (among-hashes C h)

-- Of what waits, each hash once, each hash is held once.
pub held_once : (H : List Hash) (W : List ChangeParts) → HashesOnce W → EachOnce (held_of H W)
held_once H [] o = tt
held_once H (c ∷ W) o =
    elim (truth (among H (hash_of c))) [
      | inl t ↦ rw t (not_true (among (held_of H W) (hash_of c)) (λ a. never (held_has W (hash_of c) a) o.0), held_once H W o.1)
      | inr f ↦ rw f (held_once H W o.1)
    ] where
      held_has : (V : List ChangeParts) (h : Hash) → among (held_of H V) h ≡ true → has V h ≡ true
      held_has [] h e = e
      held_has (d ∷ V) h e = elim (truth (among H (hash_of d))) [
        | inl t ↦ elim (or_cases (same_hash (hash_of d) h) (among (held_of H V) h) (rw t at e)) [
          | inl s ↦ or_left (same_hash (hash_of d) h) (has V h) s
          | inr m ↦ or_right (same_hash (hash_of d) h) (has V h) (held_has V h m)
        ]
        | inr f ↦ or_right (same_hash (hash_of d) h) (has V h) (held_has V h (rw f at e))
      ]

pub held_each : (H : List Hash) (V W : List ChangeParts) (v : List Hash) → v ≡ held_of H V → V ≡ W → HashesOnce W → EachOnce v
held_each H V W v e f o = subst EachOnce (sym (e ∙ ap (held_of H) f)) (held_once H W o)

pub held_of-append : (H : List Hash) (C D : List ChangeParts) → held_of H (C ++ D) ≡ held_of H C ++ held_of H D
held_of-append H [] D = refl
held_of-append H (c ∷ C) D =
    elim (among H (hash_of c)) as (λ b. cond b (hash_of c ∷ held_of H (C ++ D)) (held_of H (C ++ D)) ≡ cond b (hash_of c ∷ held_of H C) (held_of H C) ++ held_of H D) [
      | true ↦ ap (λ l. hash_of c ∷ l) (held_of-append H C D)
      | false ↦ held_of-append H C D
    ]

pub held_of-more : (H : List Hash) (C : List ChangeParts) (i : ℕ) (d : ChangeParts) (v v' : List Hash) → i < length C → v ≡ held_of H (take i C) → v' ≡ v ++ held_of H (get_or C i d ∷ []) → v' ≡ held_of H (take (i + 1) C)
held_of-more H C i d v v' small e g =
    g ∙ ap (λ l. l ++ held_of H (get_or C i d ∷ [])) e
    ∙ sym (ap (held_of H) (take_more C i d small) ∙ held_of-append H (take i C) (get_or C i d ∷ []))
