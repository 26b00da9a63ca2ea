-- What is kept beside changes is theirs in a copy too.
use Rattle.tp_ancestry.proofs.Common.{◌≡◌, ◌∙◌, ℕ, List, Option, Some, None, MatchOption, ap, refl, sym, subst, slice_get, Hash, ChangeParts, VersionVector, IsVectorOf, IsVectorAt, ArePasts, AllZip, IsSomeAnd, VectorAt}
use Rattle.std.proofs.lemmas.Slice.Zip.{AllZip-right}
use Rattle.tp_ancestry.specs.Copies.{IsSameVector, IsSameVectorAt, AreSamePasts}
use Rattle.tp_ancestry.specs.declared.pasts.Pasts.{Pasts}

-- what holds of each item holds of each of another list, where it goes over to the item at the same place
pub each_over : {A : Type 0} (R : A → A → Type 0) (P : A → Type 0) → ((x y : A) → R x y → P x → P y) → (xs ys : List A) → AllZip R xs ys
    → ((k : ℕ) → (x : A) → slice_get xs k ≡ Some x → P x) → (k : ℕ) → (y : A) → slice_get ys k ≡ Some y → P y
each_over {A} R P over xs ys zip each k y at = by (slice_get xs k) (slice_get ys k) (AllZip-right R xs ys zip k) (each k) at where
  by : (o p : Option A) → MatchOption p (Unit {0}) (λ w. IsSomeAnd o (λ x. R x w)) → ((x : A) → o ≡ Some x → P x) → p ≡ Some y → P y
  by o None z h e = cc
  by None (Some w) z h e = absurd z
  by (Some x) (Some w) z h e = let same : w ≡ y = cc in subst P same (over x w z (h x refl))

IsVectorOf-same : (C : List ChangeParts) (H : List Hash) (e f : VersionVector) → IsSameVector e f → IsVectorOf C H e → IsVectorOf C H f
IsVectorOf-same C H e f same w = record {
  placed = record { prefix = rw same.prefix w.placed.prefix; latest = rw same.latest w.placed.latest };
  held = rw (same.prefix, same.latest) w.held;
}

IsVectorAt-same : (C : List ChangeParts) (a b : VectorAt) → IsSameVectorAt a b → IsVectorAt C a → IsVectorAt C b
IsVectorAt-same C a b same w = record {
  place = rw same.place w.place;
  known = λ c at. IsVectorOf-same C c.deps a.vector b.vector same.vector (w.known c (ap (slice_get C) (sym same.place) ∙ at));
}

pub ArePasts-same : (C : List ChangeParts) (p q : Pasts) → AreSamePasts p q → ArePasts C p.prefixes.items p.vectors.items → ArePasts C q.prefixes.items q.vectors.items
ArePasts-same C p q same w = record {
  each = rw same.prefixes w.each;
  spans = rw same.prefixes w.spans;
  vectors = each_over IsSameVectorAt (IsVectorAt C) (IsVectorAt-same C) p.vectors.items q.vectors.items same.vectors w.vectors;
}
