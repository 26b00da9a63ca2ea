-- The last text of a generation, by its place.
use Rattle.std.proofs.Common.{◌≡◌, ℕ, zero, suc, ◌<◌, ◌≤◌, List, [], ◌∷◌, ◌++◌, length, Option, Some, None, IfSome, slice_get, get_or, refl, sym, ap, subst, ◌∙◌, ◌+◌, ◌⊎◌, arith, inl, inr}
use Rattle.std.proofs.lemmas.Bool.{cases_lt}
use Rattle.std.proofs.lemmas.Option.{slice_get_within, slice_get_read}
use Rattle.tp_list.specs.Members.{In}
use Rattle.tp_list.proofs.Members.{In-slice_get}
use Rattle.tp_mirror.specs.declared.base.Nearest.{Nearest}
use Rattle.tp_mirror.specs.declared.known.Digest.{Digest}
use Rattle.tp_mirror.specs.declared.known.Known.{Known}
use Rattle.tp_mirror.specs.declared.known.TextAt.{TextAt}
use Rattle.tp_mirror.specs.Generations.{IsOf}
use Rattle.tp_mirror.specs.Basing.{AreAsFar, Counts, IsAsFar, IsBase, IsBaseAt, IsEmptyBase, IsLastAt, IsNearestAt, MayBaseMoved}

-- what is before a place, and what is after it, each with its place
pub record Parting {X : Type 0} (xs : List X) (at : ℕ) (x : X) : Type 0 where
  pub before : List X
  pub after : List X
  pub place : xs ≡ before ++ x ∷ after
  pub later : (y : X) → In y after → (j : ℕ) × (at < j) × (slice_get xs j ≡ Some y)

pub place_of : {X : Type 0} (xs : List X) (y : X) → In y xs → (j : ℕ) × (slice_get xs j ≡ Some y)
place_of [] y c = absurd c
place_of (x ∷ xs) y (inl e) = (zero, rw e refl)
place_of (x ∷ xs) y (inr c) = let p = place_of xs y c in (suc p.0, p.1)

pub parting : {X : Type 0} (xs : List X) (at : ℕ) (x : X) → slice_get xs at ≡ Some x → Parting xs at x
parting [] at x e = absurd cc
parting (y ∷ xs) zero x e = record {
  before = [];
  after = xs;
  place = ap (λ z. z ∷ xs) (let f : y ≡ x = cc in f);
  later = λ z c. let p = place_of xs z c in (suc p.0, omega arith, p.1);
}
parting (y ∷ xs) (suc at) x e =
    let p = parting xs at x e in
    record {
      before = y ∷ p.before;
      after = p.after;
      place = ap (λ l. y ∷ l) p.place;
      later = λ z c. let q = p.later z c in (suc q.0, omega (arith, q.1), q.2);
    }

-- The last of its generation up to a place: none between that and the place is of it.
pub record IsLastBelow (texts : List Known) (number at below : ℕ) : Type 0 where
  pub known : Known
  pub place : slice_get texts at ≡ Some known
  pub generation : known.generation ≡ number
  pub within : at < below
  pub later : (j : ℕ) (other : Known) → at < j → j < below → slice_get texts j ≡ Some other → other.generation ≡ number → ⊥

pub record HasNoneBelow (texts : List Known) (number below : ℕ) : Type 0 where
  pub none : (j : ℕ) (other : Known) → j < below → slice_get texts j ≡ Some other → other.generation ≡ number → ⊥

-- all up to a place that count are so far
unfoldable pub AreAsFarBelow : (TextAt → Digest → ℕ → Type 0) → Option ℕ → List Known → Digest → ℕ → ℕ → Type 0
AreAsFarBelow IsFar own texts digest n below = (j : ℕ) (other : Known) → j < below → slice_get texts j ≡ Some other → Counts own other.generation → IsAsFar IsFar other.text digest n

-- The nearest up to a place.
pub record IsNearestBelow (IsFar : TextAt → Digest → ℕ → Type 0) (own : Option ℕ) (texts : List Known) (digest : Digest) (n : Nearest) (below : ℕ) : Type 0 where
  pub known : Known
  pub place : slice_get texts n.at ≡ Some known
  pub generation : known.generation ≡ n.generation
  pub counts : Counts own n.generation
  pub distance : IsFar known.text digest n.distance
  pub least : AreAsFarBelow IsFar own texts digest n.distance below

-- None up to a place counts.
unfoldable pub NoneCountsBelow : Option ℕ → List Known → ℕ → Type 0
NoneCountsBelow own texts below = (j : ℕ) (other : Known) → j < below → slice_get texts j ≡ Some other → Counts own other.generation → ⊥

-- ---- where the loop goes on

some_is : {X : Type 0} (x y : X) → (let o : Option X = Some x in o) ≡ Some y → x ≡ y
some_is x y e = cc

as_far : (IsFar : TextAt → Digest → ℕ → Type 0) (t : TextAt) (digest : Digest) (n m : ℕ) → n ≤ m → IsAsFar IsFar t digest m → IsAsFar IsFar t digest n
unfolding IsAsFar
as_far IsFar t digest n m le (d, is, more) = (d, is, omega (arith, le, more))

-- the one at a place is the one that was looked at there
same_place : (texts : List Known) (at j : ℕ) (k other : Known) → slice_get texts at ≡ Some k → slice_get texts j ≡ Some other → j ≡ at → k ≡ other
same_place texts at j k other place at-j same = some_is k other (sym place ∙ ap (slice_get texts) (sym same) ∙ at-j)

-- all up to a place, and the one there, are as far
more_least : (IsFar : TextAt → Digest → ℕ → Type 0) (own : Option ℕ) (texts : List Known) (digest : Digest) (n at d : ℕ) (k : Known) → slice_get texts at ≡ Some k → IsFar k.text digest d → n ≤ d
    → AreAsFarBelow IsFar own texts digest n at → AreAsFarBelow IsFar own texts digest n (at + 1)
unfolding IsAsFar AreAsFarBelow
more_least IsFar own texts digest n at d k place is le before j other lt at-j counts =
    elim (cases_lt j at) [
      | inl below ↦ before j other below at-j counts
      | inr above ↦ (d, subst (λ (x : Known). IsFar x.text digest d) (same_place texts at j k other place at-j (omega (arith, lt, above))) is, le)
    ]

-- all are as far where none counted before
first_least : (IsFar : TextAt → Digest → ℕ → Type 0) (own : Option ℕ) (texts : List Known) (digest : Digest) (n at : ℕ) → NoneCountsBelow own texts at → AreAsFarBelow IsFar own texts digest n at
unfolding AreAsFarBelow NoneCountsBelow
first_least IsFar own texts digest n at none j other lt at-j counts = absurd (none j other lt at-j counts)

less_far : (IsFar : TextAt → Digest → ℕ → Type 0) (own : Option ℕ) (texts : List Known) (digest : Digest) (n m at : ℕ) → n ≤ m → AreAsFarBelow IsFar own texts digest m at → AreAsFarBelow IsFar own texts digest n at
unfolding AreAsFarBelow
less_far IsFar own texts digest n m at le all j other lt at-j counts = as_far IsFar other.text digest n m le (all j other lt at-j counts)

-- the nearest up to a place, where the one that comes next is looked at
pub nearest_more : (IsFar : TextAt → Digest → ℕ → Type 0) (own : Option ℕ) (texts : List Known) (digest : Digest) (best : Option Nearest) (next result : Nearest) (at : ℕ) (k : Known)
    → (best ≡ None → NoneCountsBelow own texts at) → IfSome best (λ n. IsNearestBelow IsFar own texts digest n at)
    → slice_get texts at ≡ Some k → next.at ≡ at → k.generation ≡ next.generation → Counts own next.generation → IsFar k.text digest next.distance
    → (result ≡ next) ⊎ (best ≡ Some result) → result.distance ≤ next.distance → IfSome best (λ b. result.distance ≤ b.distance)
    → IsNearestBelow IsFar own texts digest result (at + 1)
nearest_more IsFar own texts digest None next result at k none so_far place is-at generation counts is (inl same) le best =
    record {
      known = k;
      place = ap (λ (n : Nearest). slice_get texts n.at) same ∙ ap (slice_get texts) is-at ∙ place;
      generation = generation ∙ ap (λ (n : Nearest). n.generation) (sym same);
      counts = subst (λ (n : Nearest). Counts own n.generation) (sym same) counts;
      distance = subst (λ (n : Nearest). IsFar k.text digest n.distance) (sym same) is;
      least = more_least IsFar own texts digest result.distance at next.distance k place is le (first_least IsFar own texts digest result.distance at (none refl));
    }
nearest_more IsFar own texts digest None next result at k none so_far place is-at generation counts is (inr same) le best = absurd cc
nearest_more IsFar own texts digest (Some b) next result at k none so_far place is-at generation counts is (inl same) le best =
    record {
      known = k;
      place = ap (λ (n : Nearest). slice_get texts n.at) same ∙ ap (slice_get texts) is-at ∙ place;
      generation = generation ∙ ap (λ (n : Nearest). n.generation) (sym same);
      counts = subst (λ (n : Nearest). Counts own n.generation) (sym same) counts;
      distance = subst (λ (n : Nearest). IsFar k.text digest n.distance) (sym same) is;
      least = more_least IsFar own texts digest result.distance at next.distance k place is le (less_far IsFar own texts digest result.distance b.distance at best so_far.least);
    }
nearest_more IsFar own texts digest (Some b) next result at k none so_far place is-at generation counts is (inr same) le best =
    let one : b ≡ result = some_is b result same in
    record {
      known = so_far.known;
      place = ap (λ (n : Nearest). slice_get texts n.at) (sym one) ∙ so_far.place;
      generation = so_far.generation ∙ ap (λ (n : Nearest). n.generation) one;
      counts = subst (λ (n : Nearest). Counts own n.generation) one so_far.counts;
      distance = subst (λ (n : Nearest). IsFar so_far.known.text digest n.distance) one so_far.distance;
      least = more_least IsFar own texts digest result.distance at next.distance k place is le (less_far IsFar own texts digest result.distance b.distance at best so_far.least);
    }

-- ---- where the loop passes one that doesn't count

pass_least : (IsFar : TextAt → Digest → ℕ → Type 0) (own : Option ℕ) (texts : List Known) (digest : Digest) (n at : ℕ) (k : Known) → slice_get texts at ≡ Some k → (Counts own k.generation → ⊥)
    → AreAsFarBelow IsFar own texts digest n at → AreAsFarBelow IsFar own texts digest n (at + 1)
unfolding AreAsFarBelow
pass_least IsFar own texts digest n at k place not before j other lt at-j counts =
    elim (cases_lt j at) [
      | inl below ↦ before j other below at-j counts
      | inr above ↦ absurd (not (subst (λ (x : Known). Counts own x.generation) (sym (same_place texts at j k other place at-j (omega (arith, lt, above)))) counts))
    ]

pub nearest_pass : (IsFar : TextAt → Digest → ℕ → Type 0) (own : Option ℕ) (texts : List Known) (digest : Digest) (best : Option Nearest) (at : ℕ) (k : Known) → slice_get texts at ≡ Some k → (Counts own k.generation → ⊥)
    → IfSome best (λ n. IsNearestBelow IsFar own texts digest n at) → IfSome best (λ n. IsNearestBelow IsFar own texts digest n (at + 1))
nearest_pass IsFar own texts digest None at k place not h = tt
nearest_pass IsFar own texts digest (Some n) at k place not h = record {
  known = h.known;
  place = h.place;
  generation = h.generation;
  counts = h.counts;
  distance = h.distance;
  least = pass_least IsFar own texts digest n.distance at k place not h.least;
}

pub none_pass : (own : Option ℕ) (texts : List Known) (at : ℕ) (k : Known) → slice_get texts at ≡ Some k → (Counts own k.generation → ⊥) → NoneCountsBelow own texts at → NoneCountsBelow own texts (at + 1)
unfolding NoneCountsBelow
none_pass own texts at k place not none j other lt at-j counts =
    elim (cases_lt j at) [
      | inl below ↦ none j other below at-j counts
      | inr above ↦ not (subst (λ (x : Known). Counts own x.generation) (sym (same_place texts at j k other place at-j (omega (arith, lt, above)))) counts)
    ]

pub none_counts_first : (own : Option ℕ) (texts : List Known) → NoneCountsBelow own texts 0
unfolding NoneCountsBelow
none_counts_first own texts j other lt at-j counts = omega (arith, lt)

-- the empty text, where it is nearer than the nearest
pub empty_base : (IsFar : TextAt → Digest → ℕ → Type 0) (texts : List Known) (digest : Digest) (near : Nearest) (base : TextAt) (d : ℕ) → IsNearestAt IsFar None texts digest near
    → base.heads ≡ [] → IsFar base digest d → d < near.distance → IsEmptyBase IsFar texts digest base
unfolding AreAsFar
empty_base IsFar texts digest near base d n none is lt = record {
  heads = none;
  distance = d;
  is_far = is;
  nearer = λ other c counts. as_far IsFar other.text digest (d + 1) near.distance (omega (arith, lt)) (n.least other c counts);
}

-- ---- where the loop has gone over all

last_at : (texts : List Known) (number at below : ℕ) → length texts ≤ below → IsLastBelow texts number at below → IsLastAt texts number at
last_at texts number at below all h =
    let p = parting texts at h.known h.place in
    record {
      known = h.known;
      place = h.place;
      generation = h.generation;
      is_last = record {
        before = p.before;
        after = p.after;
        place = p.place;
        last = λ other c e. let q = p.later other c in
            let lt : q.0 < length texts = slice_get_within texts q.0 other q.2 in
            h.later q.0 other q.1 (omega (arith, lt, all)) q.2 (e ∙ h.generation);
      };
    }

pub last_found : (last : Option ℕ) (texts : List Known) (number below : ℕ) → length texts ≤ below → IfSome last (λ a. IsLastBelow texts number a below) → IfSome last (λ a. IsLastAt texts number a)
last_found None texts number below all h = tt
last_found (Some at) texts number below all h = last_at texts number at below all h

pub none_found : (texts : List Known) (number below : ℕ) → length texts ≤ below → HasNoneBelow texts number below → (k : Known) → In k texts → k.generation ≡ number → ⊥
none_found texts number below all h k c e =
    let p = place_of texts k c in
    let lt : p.0 < length texts = slice_get_within texts p.0 k p.1 in
    h.none p.0 k (omega (arith, lt, all)) p.1 e

nearest_at : (IsFar : TextAt → Digest → ℕ → Type 0) (own : Option ℕ) (texts : List Known) (digest : Digest) (n : Nearest) (below : ℕ) → length texts ≤ below → IsNearestBelow IsFar own texts digest n below
    → IsNearestAt IsFar own texts digest n
unfolding AreAsFar AreAsFarBelow
nearest_at IsFar own texts digest n below all h = record {
  known = h.known;
  place = h.place;
  generation = h.generation;
  counts = h.counts;
  distance = h.distance;
  least = λ other c counts. let p = place_of texts other c in
      let lt : p.0 < length texts = slice_get_within texts p.0 other p.1 in
      h.least p.0 other (omega (arith, lt, all)) p.1 counts;
}

pub nearest_found : (IsFar : TextAt → Digest → ℕ → Type 0) (own : Option ℕ) (texts : List Known) (digest : Digest) (best : Option Nearest) (below : ℕ) → length texts ≤ below
    → IfSome best (λ n. IsNearestBelow IsFar own texts digest n below) → IfSome best (λ n. IsNearestAt IsFar own texts digest n)
nearest_found IsFar own texts digest None below all h = tt
nearest_found IsFar own texts digest (Some n) below all h = nearest_at IsFar own texts digest n below all h

pub none_counted : (own : Option ℕ) (texts : List Known) (below : ℕ) → length texts ≤ below → NoneCountsBelow own texts below → (k : Known) → In k texts → Counts own k.generation → ⊥
unfolding NoneCountsBelow
none_counted own texts below all none k c counts =
    let p = place_of texts k c in
    let lt : p.0 < length texts = slice_get_within texts p.0 k p.1 in
    none p.0 k (omega (arith, lt, all)) p.1 counts

pub base_found : (IsFar : TextAt → Digest → ℕ → Type 0) (own : Option ℕ) (texts : List Known) (digest : Digest) (near : Nearest) (at : ℕ) (k : Known) (base : TextAt)
    → IsNearestAt IsFar own texts digest near → IsLastAt texts near.generation at → at < length texts → k ≡ get_or texts at k → base ≡ (get_or texts at k).text
    → IsBaseAt IsFar own texts digest near.distance near.generation base
base_found IsFar own texts digest near at k base n l lt read same =
    let place : slice_get texts at ≡ Some k = slice_get_read texts (length texts) at k refl lt read in
    let one : l.known ≡ k = some_is l.known k (sym l.place ∙ place) in
    record {
      nearest = n.known;
      is_there = In-slice_get texts near.at n.known n.place;
      is_of = n.generation;
      counts = n.counts;
      is_far = n.distance;
      least = n.least;
      known = l.known;
      is_last = l.is_last;
      is_known_of = l.generation;
      text = ap (λ (x : Known). x.text) (one ∙ read) ∙ sym same;
    }

pub note_base : (IsFar : TextAt → Digest → ℕ → Type 0) (texts : List Known) (digest : Digest) (distance generation : ℕ) (base : TextAt) → IsBaseAt IsFar None texts digest distance generation base → IsBase IsFar texts digest base
unfolding IsBase
note_base IsFar texts digest distance generation base h = (distance, generation, h)

-- ---- of a file that was moved away

pub own_alone : (IsFar : TextAt → Digest → ℕ → Type 0) (texts : List Known) (own : Known) (digest : Digest) (d : ℕ) (base : TextAt) → base ≡ own.text → IsFar own.text digest d
    → ((k : Known) → In k texts → Counts (Some own.generation) k.generation → ⊥) → MayBaseMoved IsFar texts own digest base
unfolding AreAsFar
own_alone IsFar texts own digest d base same is none = inl (record { text = sym same; distance = d; is_far = is; near = inl (λ other c counts. absurd (none other c counts)) })

pub own_generation : (IsFar : TextAt → Digest → ℕ → Type 0) (texts : List Known) (own : Known) (digest : Digest) (d : ℕ) (base : TextAt) (n : Nearest) → base ≡ own.text → IsFar own.text digest d
    → IsNearestAt IsFar (Some own.generation) texts digest n → n.generation ≡ own.generation → MayBaseMoved IsFar texts own digest base
own_generation IsFar texts own digest d base n same is near e = inl (record { text = sym same; distance = d; is_far = is; near = inr (n, near, e) })

pub own_nearest : (IsFar : TextAt → Digest → ℕ → Type 0) (texts : List Known) (own : Known) (digest : Digest) (d : ℕ) (base : TextAt) (n : Nearest) → base ≡ own.text → IsFar own.text digest d
    → IsNearestAt IsFar (Some own.generation) texts digest n → d ≤ n.distance → MayBaseMoved IsFar texts own digest base
unfolding AreAsFar
own_nearest IsFar texts own digest d base n same is near le =
    inl (record { text = sym same; distance = d; is_far = is; near = inl (λ other c counts. as_far IsFar other.text digest d n.distance le (near.least other c counts)) })

pub earlier_nearer : (IsFar : TextAt → Digest → ℕ → Type 0) (texts : List Known) (own : Known) (digest : Digest) (d distance generation : ℕ) (base : TextAt) → IsFar own.text digest d
    → (generation ≡ own.generation → ⊥) → distance < d → IsBaseAt IsFar (Some own.generation) texts digest distance generation base → MayBaseMoved IsFar texts own digest base
unfolding IsAsFar
earlier_nearer IsFar texts own digest d distance generation base is other lt h =
    inr (record { distance = distance; generation = generation; other = other; is_base = h; farther = (d, is, omega (arith, lt)) })

pub copy_found : (texts : List Known) (digest : Digest) (at : ℕ) (k copy : Known) → (x : Known) × (slice_get texts at ≡ Some x) × (x.text.digest ≡ digest) → at < length texts → k ≡ get_or texts at k → copy ≡ k
    → In copy texts × (copy.text.digest ≡ digest)
copy_found texts digest at k copy (x, place, is) lt read same =
    let found : slice_get texts at ≡ Some k = slice_get_read texts (length texts) at k refl lt read in
    let one : x ≡ k = some_is x k (sym place ∙ found) in
    rw same (In-slice_get texts at k found, ap (λ (y : Known). y.text.digest) (sym one) ∙ is)

pub is_of : (texts : List Known) (number at : ℕ) (k : Known) → at < length texts → k ≡ get_or texts at k → k.generation ≡ number → IsOf texts number at
unfolding IsOf
is_of texts number at k lt read same = (k, slice_get_read texts (length texts) at k refl lt read, same)
