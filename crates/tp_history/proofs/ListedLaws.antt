-- Laws of the places that are listed by actor.
use Rattle.tp_history.proofs.Common.{◌≡◌, ◌⊎◌, inl, inr, ℕ, suc, zero, ◌+◌, ◌<◌, ◌≤◌, List, [], ◌∷◌, ◌++◌, length, take, drop, map, get_or, subst, Bool, true, false, cond, Option, Some, None, refl, sym, ap, ◌∙◌, arith, append-nil, is_eq, nat_cmp, nat_cmp_is, slice_get, keys_of, lookup, values_of, take-append-drop, Equal, AllIn, In, In-append, In-get_or, In-last, In-left, In-slice_get, Actor, same_actor, same_actor-itself, same_actor-same, ChangeParts, ByActor, actor_word, listed_places, place_by, place_if_by, places_of, list_or_none, AreBelow, HasActorAt, IsByActor, noted_word, Sound, length-append, take-append-le, ArePlacesBy}
use Rattle.std.proofs.lemmas.Map.Lookups.{exact_unsigned}
use Rattle.std.proofs.lemmas.Map.Views.{tells_apart}
use Rattle.std.proofs.lemmas.Map.Entries.{place_from_lookup}
use Rattle.tp_history.proofs.ActorChangesLaws.{own_there}
use Rattle.tp_history.proofs.PlacesLaws.{at_left}
use Rattle.tp_history.proofs.SoundLaws.{Sound-prefix}
use Rattle.tp_history.specs.ByActor.{AreSamePlaces}

-- ---- one more change

place_by-push : (C : List ChangeParts) (x : ChangeParts) (o : Option ℕ) (a : Actor) → ((p : ℕ) → o ≡ Some p → p < length C) → place_by (C ++ x ∷ []) o a ≡ place_by C o a
place_by-push C x None a low = refl
place_by-push C x (Some p) a low = ap (λ o. place_if_by p o a) (at_left C x p (low p refl))

-- what is listed stays where one more change enters
pub listed-push : (C : List ChangeParts) (x : ChangeParts) (b : ByActor) (a : Actor) → AreBelow b.listed b.firsts.entries → b.listed ≤ length C → listed_places (C ++ x ∷ []) b a ≡ listed_places C b a
listed-push C x b a below within =
    ap (λ ps. ps ++ places_of b.lists.entries a) (place_by-push C x (noted_word b.firsts.entries (actor_word a)) a (λ p e. let low : p < b.listed = below (actor_word a) p e in omega arith))

-- ---- one more note

-- new has the place at the word, and else what old has
pub IsNoted : List (ℕ × ℕ) → List (ℕ × ℕ) → ℕ → ℕ → Type 0
IsNoted old new word p = (w : ℕ) → noted_word new w ≡ cond (is_eq (nat_cmp word w)) (Some p) (noted_word old w)

pub is_noted : (old new : List (ℕ × ℕ)) (word p : ℕ) → ((w : ℕ) → noted_word new w ≡ cond (is_eq (nat_cmp word w)) (Some p) (noted_word old w)) → IsNoted old new word p
unfolding IsNoted
is_noted old new word p notes = notes

pub AreBelow-note : (old new : List (ℕ × ℕ)) (word p : ℕ) → IsNoted old new word p → AreBelow p old → AreBelow (p + 1) new
unfolding IsNoted
AreBelow-note old new word p notes below w q e = by (is_eq (nat_cmp word w)) refl where
  by : (t : Bool) → is_eq (nat_cmp word w) ≡ t → q < p + 1
  by true t =
      let here : Some p ≡ Some q = sym (notes w ∙ ap (λ b. cond b (Some p) (noted_word old w)) t) ∙ e in
      let one : p ≡ q = cc in
      omega arith
  by false t =
      let low : q < p = below w q (sym (notes w ∙ ap (λ b. cond b (Some p) (noted_word old w)) t) ∙ e) in
      omega arith

itself : (n : ℕ) → is_eq (nat_cmp n n) ≡ true
itself n = ap is_eq (sym (nat_cmp_is n n Equal refl))

-- the place is trusted for the actor that it is noted for, and what is for another stays
place_by-note : (C : List ChangeParts) (c : ChangeParts) (old new : List (ℕ × ℕ)) (b a : Actor) (p : ℕ) → noted_word old (actor_word b) ≡ None → IsNoted old new (actor_word b) p
    → slice_get C p ≡ Some c → c.actor ≡ b → place_by C (noted_word new (actor_word a)) a ≡ place_by C (noted_word old (actor_word a)) a ++ cond (same_actor b a) (p ∷ []) []
unfolding IsNoted
place_by-note C c old new b a p free notes at mine = by (is_eq (nat_cmp (actor_word b) (actor_word a))) refl where
  here : place_by C (Some p) a ≡ cond (same_actor b a) (p ∷ []) []
  here = ap (λ o. place_if_by p o a) at ∙ ap (λ x. cond (same_actor x a) (p ∷ []) []) mine

  apart : (s : Bool) → same_actor b a ≡ s → is_eq (nat_cmp (actor_word b) (actor_word a)) ≡ false → same_actor b a ≡ false
  apart true s f = let bad : true ≡ false = sym (itself (actor_word b)) ∙ ap (λ x. is_eq (nat_cmp (actor_word b) (actor_word x))) (same_actor-same b a s) ∙ f in cc
  apart false s f = s

  by : (t : Bool) → is_eq (nat_cmp (actor_word b) (actor_word a)) ≡ t → place_by C (noted_word new (actor_word a)) a ≡ place_by C (noted_word old (actor_word a)) a ++ cond (same_actor b a) (p ∷ []) []
  by true t =
      let word : actor_word b ≡ actor_word a = tells_apart exact_unsigned (actor_word b) (actor_word a) t in
      let was : noted_word old (actor_word a) ≡ None = sym (ap (noted_word old) word) ∙ free in
      let is : noted_word new (actor_word a) ≡ Some p = notes (actor_word a) ∙ ap (λ s. cond s (Some p) (noted_word old (actor_word a))) t in
      ap (λ o. place_by C o a) is ∙ here ∙ sym (ap (λ o. place_by C o a ++ cond (same_actor b a) (p ∷ []) []) was)
  by false t =
      let is : noted_word new (actor_word a) ≡ noted_word old (actor_word a) = notes (actor_word a) ∙ ap (λ s. cond s (Some p) (noted_word old (actor_word a))) t in
      let other : same_actor b a ≡ false = apart (same_actor b a) refl t in
      ap (λ o. place_by C o a) is ∙ sym (append-nil (place_by C (noted_word old (actor_word a)) a)) ∙ ap (λ s. place_by C (noted_word old (actor_word a)) a ++ cond s (p ∷ []) []) (sym other)

-- a place that is noted for an actor without a list is after none of its own
pub listed-note : (C : List ChangeParts) (c : ChangeParts) (old new : List (ℕ × ℕ)) (lists : List (Actor × List ℕ)) (b a : Actor) (p : ℕ)
    → noted_word old (actor_word b) ≡ None → places_of lists b ≡ [] → IsNoted old new (actor_word b) p → slice_get C p ≡ Some c → c.actor ≡ b
    → place_by C (noted_word new (actor_word a)) a ++ places_of lists a ≡ place_by C (noted_word old (actor_word a)) a ++ places_of lists a ++ cond (same_actor b a) (p ∷ []) []
listed-note C c old new lists b a p free none notes at mine =
    ap (λ ps. ps ++ places_of lists a) (place_by-note C c old new b a p free notes at mine) ∙ by (same_actor b a) refl where
      by : (t : Bool) → same_actor b a ≡ t
          → place_by C (noted_word old (actor_word a)) a ++ cond t (p ∷ []) [] ++ places_of lists a ≡ place_by C (noted_word old (actor_word a)) a ++ places_of lists a ++ cond t (p ∷ []) []
      by true t =
          let nothing : places_of lists a ≡ [] = sym (ap (places_of lists) (same_actor-same b a t)) ∙ none in
          let P : List ℕ = place_by C (noted_word old (actor_word a)) a in
          ap (λ ps. P ++ p ∷ [] ++ ps) nothing ∙ append-nil (P ++ p ∷ []) ∙ ap (λ ps. ps ++ p ∷ []) (sym (append-nil P)) ∙ ap (λ ps. P ++ ps ++ p ∷ []) (sym nothing)
      by false t =
          let P : List ℕ = place_by C (noted_word old (actor_word a)) a in
          ap (λ ps. ps ++ places_of lists a) (append-nil P) ∙ sym (append-nil (P ++ places_of lists a))

-- ---- the actors of all changes

-- one noted place more had its turn
pub noted_more : (C : List ChangeParts) (p q : ℕ) (s t : List ℕ) (old new : List Actor) → s ≡ q ∷ t → AllIn old new → HasActorAt C q new → In p s ⊎ HasActorAt C p old → In p t ⊎ HasActorAt C p new
noted_more C p q s t old new next more at (inl left) = elim (subst (In p) next left) [ inl is ↦ inr (subst (λ n. HasActorAt C n new) (sym is) at) | inr later ↦ inl later ]
noted_more C p q s t old new next more at (inr there) = inr (λ c is. more c.actor (there c is))

pub noted_all : (C : List ChangeParts) (p : ℕ) (s : List ℕ) (actors : List Actor) → s ≡ [] → In p s ⊎ HasActorAt C p actors → HasActorAt C p actors
noted_all C p s actors none (inl left) = absurd (subst (In p) none left)
noted_all C p s actors none (inr there) = there

pub listed_more : (a b : Actor) (s t old new : List Actor) → s ≡ b ∷ t → new ≡ old ++ b ∷ [] → In a s ⊎ In a old → In a t ⊎ In a new
listed_more a b s t old new next grown (inl left) = elim (subst (In a) next left) [
  | inl is ↦ inr (subst (In a) (sym grown) (subst (λ x. In x (old ++ b ∷ [])) (sym is) (In-last b old)))
  | inr later ↦ inl later
]
listed_more a b s t old new next grown (inr there) = inr (subst (In a) (sym grown) (In-left a old (b ∷ []) there))

pub listed_all : (a : Actor) (s actors : List Actor) → s ≡ [] → In a s ⊎ In a actors → In a actors
listed_all a s actors none (inl left) = absurd (subst (In a) none left)
listed_all a s actors none (inr there) = there

In-mapped : {X Y : Type 0} (f : X → Y) (x : X) (xs : List X) → In x xs → In (f x) (map f xs)
In-mapped f x [] i = absurd i
In-mapped f x (y ∷ xs) (inl e) = inl (ap f e)
In-mapped f x (y ∷ xs) (inr i) = inr (In-mapped f x xs i)

-- what a look-up finds has a key, and is a value
found_entry : {K X : Type 0} (test : K → Bool) (es : List (K × X)) (v : X) → lookup test es ≡ Some v → (k : K) × In k (keys_of es) × In v (values_of es) × (test k ≡ true)
found_entry {K} {X} test es v e =
    let w = place_from_lookup test es v e in
    let i : In (w.1, v) es = In-slice_get es w.0 (w.1, v) w.2 in
    (w.1, In-mapped (λ (x : K × X). x.0) (w.1, v) es i, In-mapped (λ (x : K × X). x.1) (w.1, v) es i, w.3)

-- where a place is trusted, it is noted, and the change there is the actor's
trusted_there : (C : List ChangeParts) (entries : List (ℕ × ℕ)) (actors : List Actor) (a : Actor) (o : Option ℕ) (p : ℕ) → noted_word entries (actor_word a) ≡ o
    → ((q : ℕ) → In q (values_of entries) → HasActorAt C q actors) → In p (place_by C o a) → In a actors
trusted_there C entries actors a None p is noted i = absurd i
trusted_there C entries actors a (Some q) p is noted i =
    let f = found_entry (λ v. is_eq (nat_cmp (actor_word a) v)) entries q is in
    by (slice_get C q) refl i where
      by : (o : Option ChangeParts) → slice_get C q ≡ o → In p (place_if_by q o a) → In a actors
      by None at j = absurd j
      by (Some d) at j = mine (same_actor d.actor a) refl j where
        mine : (b : Bool) → same_actor d.actor a ≡ b → In p (cond b (q ∷ []) []) → In a actors
        mine true t k = subst (λ x. In x actors) (same_actor-same d.actor a t) (noted q (found_entry (λ v. is_eq (nat_cmp (actor_word a) v)) entries q is).2 d at)
        mine false t k = absurd k

listed_there : (entries : List (Actor × List ℕ)) (actors : List Actor) (a : Actor) (o : Option (List ℕ)) (p : ℕ) → lookup (same_actor a) entries ≡ o → AllIn (keys_of entries) actors → In p (list_or_none o) → In a actors
listed_there entries actors a None p is listed i = absurd i
listed_there entries actors a (Some ps) p is listed i =
    let f = found_entry (same_actor a) entries ps is in
    subst (λ x. In x actors) (sym (same_actor-same a f.0 f.3)) (listed f.0 f.1)

-- after all but one there is one at most
only_one : (C : List ChangeParts) (n : ℕ) (c : ChangeParts) → length C ≤ n + 1 → In c (drop n C) → slice_get C n ≡ Some c
only_one [] zero c few i = absurd i
only_one [] (suc n) c few i = absurd i
only_one (d ∷ []) zero c few (inl e) = ap Some (sym e)
only_one (d ∷ []) zero c few (inr i) = absurd i
only_one (d ∷ x ∷ C) zero c few i = absurd (omega arith)
only_one (d ∷ C) (suc n) c few i = only_one C n c (omega arith) i

pub all_there : (C : List ChangeParts) (b : ByActor) (actors : List Actor) → Sound C → IsByActor C b → ((p : ℕ) → In p (values_of b.firsts.entries) → HasActorAt C p actors)
    → AllIn (keys_of b.lists.entries) actors → HasActorAt C b.listed actors → (c : ChangeParts) → In c C → In c.actor actors
all_there C b actors s w noted listed last c i =
    let n = b.listed in
    let whole : take n C ++ drop n C ≡ C = take-append-drop n C in
    elim (In-append c (take n C) (drop n C) (subst (In c) (sym whole) i)) [
      | inl early ↦
          let a = c.actor in
          let ps = listed_places C b a in
          let j = own_there (take n C) a ps c (Sound-prefix (take n C) (drop n C) (subst Sound (sym whole) s)) (w.own a) early (same_actor-itself a) in
          let p : ℕ = get_or ps j.0 0 in
          elim (In-append p (place_by C (noted_word b.firsts.entries (actor_word a)) a) (places_of b.lists.entries a) (In-get_or ps j.0 0 j.1)) [
            | inl first ↦ trusted_there C b.firsts.entries actors a (noted_word b.firsts.entries (actor_word a)) p refl noted first
            | inr more ↦ listed_there b.lists.entries actors a (lookup (same_actor a) b.lists.entries) p refl listed more
          ]
      | inr late ↦ last c (only_one C n c w.near late)
    ]

-- the lists by actor where one more change enters, which isn't listed yet
pub IsByActor-push : (C : List ChangeParts) (x : ChangeParts) (b : ByActor) → b.listed ≡ length C → IsByActor C b → IsByActor (C ++ x ∷ []) b
IsByActor-push C x b all w =
    let more : length (C ++ x ∷ []) ≡ length C + 1 = length-append C (x ∷ []) in
    let within = w.within in
    record {
      within = omega arith;
      near = omega arith;
      below = w.below;
      own = λ a. subst (ArePlacesBy (take b.listed (C ++ x ∷ [])) a) (sym (listed-push C x b a w.below within))
          (subst (λ D. ArePlacesBy D a (listed_places C b a)) (sym (take-append-le b.listed C (x ∷ []) within)) (w.own a));
    }

-- ---- a copy

pub IsByActor-same : (C : List ChangeParts) (b d : ByActor) → AreSamePlaces b d → IsByActor C b → IsByActor C d
IsByActor-same C b d same w = record {
  within = rw same.listed w.within;
  near = rw same.listed w.near;
  below = rw (same.listed, same.firsts) w.below;
  own = λ a. rw (same.listed, same.firsts, same.lists) (w.own a);
}
