-- Laws of how far the pasts of changes reach, as it is kept.
use Rattle.tp_ancestry.proofs.Common.{◌≡◌, ◌⊎◌, ℕ, ◌+◌, ◌<◌, inl, inr, List, [], ◌∷◌, ◌++◌, length, Some, Result, Ok, Err, IfOk, sym, ◌∙◌, subst, arith, length-append, slice_get, slice_get_within, In-slice_get, ChangeParts, VersionVector, IsVectorOf, IsSpan, IsVectorAt, AreVectorsAt, ArePasts, Sound, Fits, VectorAt}
use Rattle.tp_ancestry.specs.declared.pasts.TheConstants.{NO_PREFIX}
use Rattle.tp_ancestry.proofs.VectorLaws.{IsVectorOf-push}
use Rattle.tp_history.proofs.PlacesLaws.{at_push}
use Rattle.tp_history.proofs.SoundLaws.{deps_there}

one_more : (C : List ChangeParts) (x : ChangeParts) → length (C ++ x ∷ []) ≡ length C + 1
one_more C x = length-append C (x ∷ [])

kept : (C : List ChangeParts) (x c : ChangeParts) (i : ℕ) (e : VersionVector) → Sound C → Fits C x → slice_get C i ≡ Some c → IsVectorOf C c.deps e → IsVectorOf (C ++ x ∷ []) c.deps e
kept C x c i e s f at w = IsVectorOf-push C x c.deps e s f (deps_there C s c (In-slice_get C i c at)) w

IsVectorAt-push : (C : List ChangeParts) (x : ChangeParts) (a : VectorAt) → Sound C → Fits C x → IsVectorAt C a → IsVectorAt (C ++ x ∷ []) a
IsVectorAt-push C x a s f w =
    let small : a.place < length C = w.place in
    let more : length (C ++ x ∷ []) ≡ length C + 1 = one_more C x in
    record {
      place = omega arith;
      known = λ c at. by c (at_push C x a.place c at);
    } where
      by : (c : ChangeParts) → ((slice_get C a.place ≡ Some c) ⊎ ((a.place ≡ length C) × (c ≡ x))) → IsVectorOf (C ++ x ∷ []) c.deps a.vector
      by c (inl at) = kept C x c a.place a.vector s f at (w.known c at)
      by c (inr z) =
          let small : a.place < length C = w.place in
          let end : a.place ≡ length C = z.0 in
          absurd (omega arith)

IsVectorAt-last : (C : List ChangeParts) (x : ChangeParts) (a : VectorAt) → Sound C → Fits C x → a.place ≡ length C → IsVectorOf C x.deps a.vector → IsVectorAt (C ++ x ∷ []) a
IsVectorAt-last C x a s f end w =
    let more : length (C ++ x ∷ []) ≡ length C + 1 = one_more C x in
    record {
      place = omega arith;
      known = λ c at. by c (at_push C x a.place c at);
    } where
      by : (c : ChangeParts) → ((slice_get C a.place ≡ Some c) ⊎ ((a.place ≡ length C) × (c ≡ x))) → IsVectorOf (C ++ x ∷ []) c.deps a.vector
      by c (inl at) =
          let small : a.place < length C = slice_get_within C a.place c at in
          absurd (omega arith)
      by c (inr z) = subst (λ (d : ChangeParts). IsVectorOf (C ++ x ∷ []) d.deps a.vector) (sym z.1) (IsVectorOf-push C x x.deps a.vector s f f.deps w)

-- the version vectors that are kept separately stay so where a change enters
pub AreVectorsAt-more : (C : List ChangeParts) (x : ChangeParts) (xs : List VectorAt) → Sound C → Fits C x → AreVectorsAt C xs → AreVectorsAt (C ++ x ∷ []) xs
AreVectorsAt-more C x xs s f w k a at = IsVectorAt-push C x a s f (w k a at)

-- and its own comes to them
pub AreVectorsAt-push : (C : List ChangeParts) (x : ChangeParts) (xs : List VectorAt) (a : VectorAt) → Sound C → Fits C x → a.place ≡ length C → IsVectorOf C x.deps a.vector → AreVectorsAt C xs → AreVectorsAt (C ++ x ∷ []) (xs ++ a ∷ [])
AreVectorsAt-push C x xs a s f end known w k b at = by (at_push xs a k b at) where
  by : ((slice_get xs k ≡ Some b) ⊎ ((k ≡ length xs) × (b ≡ a))) → IsVectorAt (C ++ x ∷ []) b
  by (inl here) = IsVectorAt-push C x b s f (w k b here)
  by (inr z) = subst (IsVectorAt (C ++ x ∷ [])) (sym z.1) (IsVectorAt-last C x a s f end known)

-- the pasts where a change enters
pub ArePasts-push : (C : List ChangeParts) (x : ChangeParts) (ns : List ℕ) (xs ys : List VectorAt) (n : ℕ) → Sound C → Fits C x → ArePasts C ns xs → (n < NO_PREFIX → IsSpan C x.deps n)
    → AreVectorsAt (C ++ x ∷ []) ys → ArePasts (C ++ x ∷ []) (ns ++ n ∷ []) ys
ArePasts-push C x ns xs ys n s f w span ys_are =
    let same : length ns ≡ length C = w.each in
    let one : length (ns ++ n ∷ []) ≡ length ns + 1 = length-append ns (n ∷ []) in
    let two : length (C ++ x ∷ []) ≡ length C + 1 = one_more C x in
    record {
      each = omega arith;
      spans = λ i c m at here small. by i c m (at_push C x i c at) (at_push ns n i m here) small;
      vectors = ys_are;
    } where
      by : (i : ℕ) (c : ChangeParts) (m : ℕ) → ((slice_get C i ≡ Some c) ⊎ ((i ≡ length C) × (c ≡ x))) → ((slice_get ns i ≡ Some m) ⊎ ((i ≡ length ns) × (m ≡ n))) → m < NO_PREFIX → IsSpan (C ++ x ∷ []) c.deps m
      by i c m (inl at) (inl here) small = λ e prefix latest. kept C x c i e s f at (w.spans i c m at here small e prefix latest)
      by i c m (inl at) (inr z) small =
          let low : i < length C = slice_get_within C i c at in
          let same : length ns ≡ length C = w.each in
          let end : i ≡ length ns = z.0 in
          absurd (omega arith)
      by i c m (inr z) (inl here) small =
          let low : i < length ns = slice_get_within ns i m here in
          let same : length ns ≡ length C = w.each in
          let end : i ≡ length C = z.0 in
          absurd (omega arith)
      by i c m (inr z) (inr y) small =
          let below : n < NO_PREFIX = subst (λ (k : ℕ). k < NO_PREFIX) y.1 small in
          subst (λ (d : ChangeParts). IsSpan (C ++ x ∷ []) d.deps m) (sym z.1)
          (λ e prefix latest. IsVectorOf-push C x x.deps e s f f.deps (span below e (prefix ∙ y.1) latest))

-- what an answer says goes on to what follows from it
pub if_ok-map : {T E : Type 0} {P Q : T → Type 0} (r : Result T E) → ((x : T) → P x → Q x) → IfOk r P → IfOk r Q
if_ok-map (Ok x) f p = f x p
if_ok-map (Err e) f p = tt
