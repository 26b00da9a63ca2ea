-- Entries in the order of their actors: what a search among them finds, and what a new entry and a new number leave.
use Rattle.tp_list.proofs.Members.{In-index}
use Rattle.std.proofs.Common.{◌≡◌, inl, inr, ℕ, zero, suc, ◌+◌, ◌-◌, ◌<◌, ◌≤◌, Bool, true, false, cond, List, [], ◌∷◌, length, get_or, insert, set, map, refl, sym, ap, ◌∙◌, arith}
use Rattle.std.specs.Ordering.{ordering_reverse}
use Rattle.std.specs.declared.cmp.Ordering.TheVariants.{Less, Equal, Greater}
use Rattle.std.proofs.lemmas.Cmp.{tied_itself}
use Rattle.std.proofs.lemmas.List.{get_or-set_other, get_or-set_same, length-set, length-map}
use Rattle.tp_list.specs.Members.{In}
use Rattle.tp_opid.specs.declared.actor.Actor.{Actor}
use Rattle.tp_opid.specs.Order.{actor_cmp}
use Rattle.tp_opid.specs.Same.{same_actor}
use Rattle.tp_opid.proofs.Orders.{actor_total, same_actor-same, same_actor-itself}
use Rattle.tp_elements.specs.declared.links.Latest.{Latest}
use Rattle.tp_elements.specs.Actors.{latest_at, AreByActor, IsPlaceOf}
use Rattle.tp_elements.specs.Indexed.{note_latest}
use Rattle.tp_elements.proofs.Lists.{get_or-of_map, length-inserted, below_or_not}

-- ---- what is noted

-- what is noted keeps its actor
pub note_latest-actor : (a : Actor) (n : ℕ) (x : Latest) → (note_latest a n x).actor ≡ x.actor
note_latest-actor a n x = elim (same_actor x.actor a) as (λ b. (cond b (let y : Latest = record { actor = x.actor; number = n } in y) x).actor ≡ x.actor) [ true ↦ refl | false ↦ refl ]

-- and has the new number where it is the actor's
pub note_latest-number : (a : Actor) (n : ℕ) (x : Latest) (b : Bool) → same_actor x.actor a ≡ b → (note_latest a n x).number ≡ cond b n x.number
note_latest-number a n x b e = ap (λ (v : Bool). (cond v (let y : Latest = record { actor = x.actor; number = n } in y) x).number) e ∙ elim b as (λ v. (cond v (let y : Latest = record { actor = x.actor; number = n } in y) x).number ≡ cond v n x.number) [ true ↦ refl | false ↦ refl ]

-- what is noted of the actor, and of another
pub note_latest-yes : (a : Actor) (n : ℕ) (x : Latest) → same_actor x.actor a ≡ true → note_latest a n x ≡ (let y : Latest = record { actor = x.actor; number = n } in y)
note_latest-yes a n x e = ap (λ (v : Bool). cond v (let y : Latest = record { actor = x.actor; number = n } in y) x) e

pub note_latest-no : (a : Actor) (n : ℕ) (x : Latest) → same_actor x.actor a ≡ false → note_latest a n x ≡ x
note_latest-no a n x e = ap (λ (v : Bool). cond v (let y : Latest = record { actor = x.actor; number = n } in y) x) e

-- ---- the order of actors

-- an actor isn't before itself
less-apart : (a b : Actor) → actor_cmp a b ≡ Less → a ≡ b → ⊥
less-apart a b less e = let same : actor_cmp a b ≡ Equal = ap (actor_cmp a) (sym e) ∙ tied_itself actor_total a in cc

-- so it is another one
less-other : (a b : Actor) → actor_cmp a b ≡ Less → same_actor a b ≡ false
less-other a b less = elim (same_actor a b) as (λ v. same_actor a b ≡ v → v ≡ false) [ true ↦ λ h. absurd (less-apart a b less (same_actor-same a b h)) | false ↦ λ h. refl ] refl

more-other : (a b : Actor) → actor_cmp b a ≡ Less → same_actor a b ≡ false
more-other a b less = elim (same_actor a b) as (λ v. same_actor a b ≡ v → v ≡ false) [ true ↦ λ h. absurd (less-apart b a less (sym (same_actor-same a b h))) | false ↦ λ h. refl ] refl

turned : (a b : Actor) → actor_cmp a b ≡ Greater → actor_cmp b a ≡ Less
turned a b e = actor_total.antisymm b a ∙ ap ordering_reverse e

-- ---- a search

-- what is before an entry whose actor is less
pub before_more : (latest : List Latest) (a : Actor) (i : ℕ) → AreByActor latest → i < length latest → actor_cmp (latest_at latest i).actor a ≡ Less → (k : ℕ) → k < i + 1 → actor_cmp (latest_at latest k).actor a ≡ Less
before_more latest a i sorted lt less k short =
    elim (below_or_not k i) as (λ _. actor_cmp (latest_at latest k).actor a ≡ Less) [
      | inl before ↦ actor_total.trans (latest_at latest k).actor (latest_at latest i).actor a (sorted k i before lt) less
      | inr le ↦ (let e : k ≡ i = omega arith in ap (λ n. actor_cmp (latest_at latest n).actor a) e ∙ less)
    ]

-- what is after an entry whose actor is greater
pub after_more : (latest : List Latest) (a : Actor) (i : ℕ) → AreByActor latest → actor_cmp (latest_at latest i).actor a ≡ Greater → (k : ℕ) → i ≤ k → k < length latest → actor_cmp a (latest_at latest k).actor ≡ Less
after_more latest a i sorted more k le lt =
    elim (below_or_not i k) as (λ _. actor_cmp a (latest_at latest k).actor ≡ Less) [
      | inl beyond ↦ actor_total.trans a (latest_at latest i).actor (latest_at latest k).actor (turned (latest_at latest i).actor a more) (sorted i k beyond lt)
      | inr ge ↦ (let e : k ≡ i = omega arith in ap (λ n. actor_cmp a (latest_at latest n).actor) e ∙ turned (latest_at latest i).actor a more)
    ]

-- where an actor's place is, it has no entry
pub none_of_place : (latest : List Latest) (a : Actor) (i : ℕ) → IsPlaceOf latest a i → (x : Latest) → In x latest → same_actor x.actor a ≡ false
none_of_place latest a i place x inside =
    let r = In-index x latest inside in
    let is : x ≡ latest_at latest r.0 = sym (r.2 (record { actor = record { 0 = [] }; number = 0 })) in
    ap (λ (w : Latest). same_actor w.actor a) is
    ∙ elim (below_or_not r.0 i) as (λ _. same_actor (latest_at latest r.0).actor a ≡ false) [
      | inl before ↦ less-other (latest_at latest r.0).actor a (place.before r.0 before)
      | inr beyond ↦ more-other (latest_at latest r.0).actor a (place.beyond r.0 beyond r.1)
    ]

-- ---- a new number

-- two lists with one thing at each place are one
same_list : (xs ys : List Latest) (d : Latest) → length xs ≡ length ys → ((k : ℕ) → k < length xs → get_or xs k d ≡ get_or ys k d) → xs ≡ ys
same_list [] [] d e h = refl
same_list [] (y ∷ ys) d e h = absurd (omega arith)
same_list (x ∷ xs) [] d e h = absurd (omega arith)
same_list (x ∷ xs) (y ∷ ys) d e h =
    let here : x ≡ y = h 0 (omega arith) in
    let rest : xs ≡ ys = same_list xs ys d (omega arith) (λ k lt. h (suc k) (omega arith)) in
    cc

-- an entry of the actor with a new number: no other is the actor's
pub set-note_latest : (latest : List Latest) (i : ℕ) (a : Actor) (n : ℕ) (y : Latest) → AreByActor latest → i < length latest → (latest_at latest i).actor ≡ a → y ≡ record { actor = (latest_at latest i).actor; number = n } → set latest i y ≡ map (note_latest a n) latest
set-note_latest latest i a n y sorted lt by y_is =
    let d : Latest = record { actor = record { 0 = [] }; number = 0 } in
    same_list (set latest i y) (map (note_latest a n) latest) d (length-set latest i y ∙ sym (length-map latest (note_latest a n))) (λ k short.
    let short' : k < length latest = (let l = length-set latest i y in omega arith) in
    let right : get_or (map (note_latest a n) latest) k d ≡ note_latest a n (latest_at latest k) = get_or-of_map (note_latest a n) latest k d d short' in
    elim (below_or_not k i) as (λ _. get_or (set latest i y) k d ≡ get_or (map (note_latest a n) latest) k d) [
      | inl before ↦ (
          let ne : k ≡ i → ⊥ = (λ (e : k ≡ i). omega arith) in
          let other = less-other (latest_at latest k).actor a (ap (actor_cmp (latest_at latest k).actor) (sym by) ∙ sorted k i before lt) in
          get_or-set_other latest i k y d ne ∙ sym (right ∙ note_latest-no a n (latest_at latest k) other))
      | inr le ↦ elim (below_or_not i k) as (λ _. get_or (set latest i y) k d ≡ get_or (map (note_latest a n) latest) k d) [
        | inl beyond ↦ (
            let ne : k ≡ i → ⊥ = (λ (e : k ≡ i). omega arith) in
            let other = more-other (latest_at latest k).actor a (ap (λ b. actor_cmp b (latest_at latest k).actor) (sym by) ∙ sorted i k beyond short') in
            get_or-set_other latest i k y d ne ∙ sym (right ∙ note_latest-no a n (latest_at latest k) other))
        | inr ge ↦ (
            let e : k ≡ i = omega arith in
            let same = ap (λ b. same_actor b a) by ∙ same_actor-itself a in
            let here : get_or (map (note_latest a n) latest) i d ≡ y = get_or-of_map (note_latest a n) latest i d d lt ∙ note_latest-yes a n (latest_at latest i) same ∙ sym y_is in
            ap (λ m. get_or (set latest i y) m d) e ∙ get_or-set_same latest i y d lt ∙ sym here ∙ ap (λ m. get_or (map (note_latest a n) latest) m d) (sym e))
      ]
    ])

-- the entries are still in their order
pub AreByActor-note_latest : (latest : List Latest) (a : Actor) (n : ℕ) → AreByActor latest → AreByActor (map (note_latest a n) latest)
AreByActor-note_latest latest a n sorted = λ j k less lt.
    let lt' : k < length latest = (let l = length-map latest (note_latest a n) in omega arith) in
    let at : (m : ℕ) → m < length latest → (latest_at (map (note_latest a n) latest) m).actor ≡ (latest_at latest m).actor = (λ m short.
    ap (λ (w : Latest). w.actor) (get_or-of_map (note_latest a n) latest m (record { actor = record { 0 = [] }; number = 0 }) (record { actor = record { 0 = [] }; number = 0 }) short) ∙ note_latest-actor a n (latest_at latest m)) in
    ap (λ b. actor_cmp b (latest_at (map (note_latest a n) latest) k).actor) (at j (omega arith))
    ∙ ap (actor_cmp (latest_at latest j).actor) (at k lt')
    ∙ sorted j k less lt'

-- ---- a new entry

-- what is before, at and after something that is put in
insert-before : (xs : List Latest) (n i : ℕ) (v d : Latest) → n < i → i ≤ length xs → get_or (insert xs i v) n d ≡ get_or xs n d
insert-before xs n zero v d less le = absurd (omega arith)
insert-before [] n (suc i) v d less le = absurd (omega arith)
insert-before (x ∷ xs) zero (suc i) v d less le = refl
insert-before (x ∷ xs) (suc n) (suc i) v d less le = insert-before xs n i v d (omega arith) (omega arith)

insert-at : (xs : List Latest) (i : ℕ) (v d : Latest) → i ≤ length xs → get_or (insert xs i v) i d ≡ v
insert-at xs zero v d le = refl
insert-at [] (suc i) v d le = absurd (omega arith)
insert-at (x ∷ xs) (suc i) v d le = insert-at xs i v d (omega arith)

insert-after : (xs : List Latest) (n i : ℕ) (v d : Latest) → i ≤ n → get_or (insert xs i v) (suc n) d ≡ get_or xs n d
insert-after xs n zero v d le = refl
insert-after [] zero (suc i) v d le = absurd (omega arith)
insert-after [] (suc n) (suc i) v d le = refl
insert-after (x ∷ xs) zero (suc i) v d le = absurd (omega arith)
insert-after (x ∷ xs) (suc n) (suc i) v d le = insert-after xs n i v d (omega arith)

-- two entries that are two others
both : (x y z w : Latest) → x ≡ z → y ≡ w → actor_cmp z.actor w.actor ≡ Less → actor_cmp x.actor y.actor ≡ Less
both x y z w e f less = ap (λ (v : Latest). actor_cmp v.actor y.actor) e ∙ ap (λ (v : Latest). actor_cmp z.actor v.actor) f ∙ less

-- two entries after the place where one is put in, or that one and one after it
second : (latest : List Latest) (i : ℕ) (x : Latest) → AreByActor latest → IsPlaceOf latest x.actor i → (j k : ℕ) → j < suc k → k < length latest → i ≤ k → actor_cmp (latest_at (insert latest i x) j).actor (latest_at (insert latest i x) (suc k)).actor ≡ Less
second latest i x sorted place j k less lt beyond =
    let d : Latest = record { actor = record { 0 = [] }; number = 0 } in
    let new = insert latest i x in
    let le = place.within in
    let last = insert-after latest k i x d beyond in
    elim (below_or_not j i) as (λ _. actor_cmp (latest_at new j).actor (latest_at new (suc k)).actor ≡ Less) [
      | inl before ↦ both (latest_at new j) (latest_at new (suc k)) (latest_at latest j) (latest_at latest k) (insert-before latest j i x d before le) last (sorted j k (omega arith) lt)
      | inr from ↦ elim (below_or_not i j) as (λ _. actor_cmp (latest_at new j).actor (latest_at new (suc k)).actor ≡ Less) [
        | inr at ↦ (
            let e : j ≡ i = omega arith in
            both (latest_at new j) (latest_at new (suc k)) x (latest_at latest k) (ap (λ n. get_or new n d) e ∙ insert-at latest i x d le) last (place.beyond k beyond lt))
        | inl after ↦ (
            let e : j ≡ suc (j - 1) = omega arith in
            both (latest_at new j) (latest_at new (suc k)) (latest_at latest (j - 1)) (latest_at latest k) (ap (λ n. get_or new n d) e ∙ insert-after latest (j - 1) i x d (omega arith)) last (sorted (j - 1) k (omega arith) lt))
      ]
    ]

-- two entries of which the later isn't the first
pair : (latest : List Latest) (i : ℕ) (x : Latest) → AreByActor latest → IsPlaceOf latest x.actor i → (j k : ℕ) → j < k → k < length (insert latest i x) → actor_cmp (latest_at (insert latest i x) j).actor (latest_at (insert latest i x) k).actor ≡ Less
pair latest i x sorted place j zero less lt = absurd (omega arith)
pair latest i x sorted place j (suc k) less lt =
    let d : Latest = record { actor = record { 0 = [] }; number = 0 } in
    let new = insert latest i x in
    let more = length-inserted latest i x in
    let le = place.within in
    elim (below_or_not (suc k) i) as (λ _. actor_cmp (latest_at new j).actor (latest_at new (suc k)).actor ≡ Less) [
      | inl before ↦ both (latest_at new j) (latest_at new (suc k)) (latest_at latest j) (latest_at latest (suc k)) (insert-before latest j i x d (omega arith) le) (insert-before latest (suc k) i x d before le) (sorted j (suc k) less (omega arith))
      | inr from ↦ elim (below_or_not k i) as (λ _. actor_cmp (latest_at new j).actor (latest_at new (suc k)).actor ≡ Less) [
        | inl at ↦ (
            let e : suc k ≡ i = omega arith in
            both (latest_at new j) (latest_at new (suc k)) (latest_at latest j) x (insert-before latest j i x d (omega arith) le) (ap (λ n. get_or new n d) e ∙ insert-at latest i x d le) (place.before j (omega arith)))
        | inr beyond ↦ second latest i x sorted place j k less (omega arith) beyond
      ]
    ]

-- an entry that is put in where it belongs
pub AreByActor-insert : (latest : List Latest) (i : ℕ) (x : Latest) → AreByActor latest → IsPlaceOf latest x.actor i → AreByActor (insert latest i x)
AreByActor-insert latest i x sorted place = λ j k less lt. pair latest i x sorted place j k less lt
