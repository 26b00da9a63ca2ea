-- Laws of version vectors: how they are joined, tidied and kept while changes enter.
use Rattle.tp_ancestry.proofs.Common.{◌≡◌, ◌↔◌, ◌⊎◌, ℕ, suc, zero, ◌+◌, ◌<◌, ◌≤◌, inl, inr, List, [], ◌∷◌, ◌++◌, length, get_or, take, drop, filter, Bool, true, false, ◌||◌, ◌&&◌, cond, nat_lt, nat_le, Option, Some, None, refl, sym, ap, ◌∙◌, subst, arith, add-one, drop-cons, length-append, ext_get_or, slice_get, nat_tests, slice_get_within, get_or_from_slice_get, take_more, get_or-take, length-take-le, take-append-drop, In, AllIn, truth, never, same_test, or_cases, or_left, or_right, both, both_left, both_right, In-left, In-right, In-append, In-slice_get, In-get_or, In-index, slice_get-there, Hash, same_actor, same_actor-same, same_actor-itself, same_actor-flip, ChangeParts, hash_of, later, VersionVector, PastSet, bits, past_changes, prefix_of, IsPastSetIn, has, has_all, past, Chain, marks, pick, same_author_of, same_author, reaches, is_reached, is_reached_by_any, is_held, held_from, ArePlaces, IsPlaced, IsVectorOf, place_from, HashesOnce, Sound, Fits}
use Rattle.tp_ancestry.specs.declared.past_set.PastSet.TheVariants.{Within, Marked}
use Rattle.tp_history.proofs.NamedLaws.{In-has}
use Rattle.tp_history.proofs.PastLaws.{past-In, past-named, past-more, past-push_other}
use Rattle.tp_history.proofs.PlacesLaws.{at_left, at_push, place_from-some, has-from_place}
use Rattle.tp_history.proofs.SoundLaws.{Fits-at, Sound-prefix, Sound-before, hashes_apart, deps_first, not_among}
use Rattle.tp_history.proofs.ReachLaws.{InPast-from_past, past-from_InPast}
use Rattle.tp_history.proofs.MarksLaws.{hashes_once, length-marks, pick-marks, pick-marked, marked-pick}
use Rattle.tp_history.proofs.CountLaws.{own_past}

-- ---- bits

left_taken : (r a d e : Bool) → ((r || a) || (d || e)) ≡ (a || ((r || d) || e))
left_taken r a d e = grind arith

right_taken : (r a d e : Bool) → ((r || a) || (d || e)) ≡ (a || (d || (r || e)))
right_taken r a d e = grind arith

both_taken : (q r a d e : Bool) → (((q || r) || a) || (d || e)) ≡ (a || ((q || d) || (r || e)))
both_taken q r a d e = grind arith

turn : (a b c : Bool) → (a || (b || c)) ≡ (b || (a || c))
turn a b c = grind arith

-- ---- authors

author-joined : (o p q : Option ChangeParts) → same_author_of o p ≡ true → same_author_of o q ≡ true → same_author_of p q ≡ true
author-joined None p q e f = cc
author-joined (Some a) None q e f = cc
author-joined (Some a) (Some b) None e f = cc
author-joined (Some a) (Some b) (Some c) e f = subst (λ x. same_actor x c.actor ≡ true) (same_actor-same a.actor b.actor e) f

author-flip : (o p : Option ChangeParts) → same_author_of o p ≡ true → same_author_of p o ≡ true
author-flip None p e = cc
author-flip (Some a) None e = cc
author-flip (Some a) (Some b) e = same_actor-flip a.actor b.actor e

pub author-read : (C : List ChangeParts) (i j : ℕ) (c d : ChangeParts) → slice_get C i ≡ Some c → slice_get C j ≡ Some d → same_actor c.actor d.actor ≡ true → same_author C i j ≡ true
author-read C i j c d at there e = rw (at, there) e

-- a later latest place of the same actor reaches whatever an earlier one does
reaches-later : (C : List ChangeParts) (s t i : ℕ) → same_author C s t ≡ true → s ≤ t → reaches C s i ≡ true → reaches C t i ≡ true
reaches-later C s t i same le r =
    let low : nat_le i s ≡ true = both_left (nat_le i s) (same_author C s i) r in
    let up : nat_le i t ≡ true = grind (arith, nat_tests) in
    both (nat_le i t) (same_author C t i) up (author-joined (slice_get C s) (slice_get C t) (slice_get C i) same (both_right (nat_le i s) (same_author C s i) r))

-- ---- latest places

pub reached-drop : (C : List ChangeParts) (T : List ℕ) (k i : ℕ) → k < length T → is_reached C (drop k T) i ≡ (reaches C (get_or T k 0) i || is_reached C (drop (k + 1) T) i)
reached-drop C T k i small =
    ap (λ l. is_reached C l i) (drop-cons T k 0 small) ∙ ap (λ m. reaches C (get_or T k 0) i || is_reached C (drop m T) i) (sym (add-one k))

pub reached-stop : (C : List ChangeParts) (T : List ℕ) (k i : ℕ) → k < length T → is_reached C (drop k T) i ≡ is_reached C T i → reaches C (get_or T k 0) i ≡ true → true ≡ is_reached C T i
reached-stop C T k i small e t =
    sym (sym e ∙ reached-drop C T k i small ∙ ap (λ b. b || is_reached C (drop (k + 1) T) i) t)

always : (b : Bool) → true ≡ (b || true)
always true = refl
always false = refl

-- a latest place that reaches the place does, whatever its number
pub reached-at : (C : List ChangeParts) (T : List ℕ) (k i : ℕ) → k < length T → reaches C (get_or T k 0) i ≡ true → true ≡ is_reached C T i
reached-at C [] k i small t = absurd (omega arith)
reached-at C (x ∷ T) zero i small t = sym (ap (λ b. b || is_reached C T i) t)
reached-at C (x ∷ T) (suc k) i small t = always (reaches C x i) ∙ ap (λ b. reaches C x i || b) (reached-at C T k i (omega arith) t)

pub reached-on : (C : List ChangeParts) (T : List ℕ) (k i : ℕ) → k < length T → is_reached C (drop k T) i ≡ is_reached C T i → reaches C (get_or T k 0) i ≡ false → is_reached C (drop (k + 1) T) i ≡ is_reached C T i
reached-on C T k i small e f =
    sym (sym e ∙ reached-drop C T k i small ∙ ap (λ b. b || is_reached C (drop (k + 1) T) i) f)

pub reached-push : (C : List ChangeParts) (T : List ℕ) (t i : ℕ) → is_reached C (T ++ t ∷ []) i ≡ (reaches C t i || is_reached C T i)
reached-push C [] t i = refl
reached-push C (s ∷ T) t i = ap (λ b. reaches C s i || b) (reached-push C T t i) ∙ turn (reaches C s i) (reaches C t i) (is_reached C T i)

-- the later of two latest places of one actor reaches what either does
reaches-both : (C : List ChangeParts) (x y p : ℕ) → same_author C x y ≡ true → reaches C (later x y) p ≡ (reaches C x p || reaches C y p)
reaches-both C x y p same =
    elim (truth (nat_lt x y)) [
      | inl t ↦
          let le : x ≤ y = grind (arith, nat_tests) in
          ap (λ b. reaches C (cond b y x) p) t
          ∙ same_test (reaches C y p) (reaches C x p || reaches C y p)
          (λ r. or_right (reaches C x p) (reaches C y p) r)
          (λ r. elim (or_cases (reaches C x p) (reaches C y p) r) [ inl u ↦ reaches-later C x y p same le u | inr u ↦ u ])
      | inr f ↦
          let le : y ≤ x = grind (arith, nat_tests) in
          ap (λ b. reaches C (cond b y x) p) f
          ∙ same_test (reaches C x p) (reaches C x p || reaches C y p)
          (λ r. or_left (reaches C x p) (reaches C y p) r)
          (λ r. elim (or_cases (reaches C x p) (reaches C y p) r) [ inl u ↦ u | inr u ↦ reaches-later C y x p (author-flip (slice_get C x) (slice_get C y) same) le u ])
    ]

-- ---- the steps of a merge

pub is_reached_by_any-left : (C : List ChangeParts) (xs ys all new : List ℕ) (i j p : ℕ) → i < length xs → new ≡ all ++ get_or xs i 0 ∷ [] → is_reached_by_any C xs ys new (i + 1) j p ≡ is_reached_by_any C xs ys all i j p
is_reached_by_any-left C xs ys all new i j p small e =
    ap (λ l. is_reached_by_any C xs ys l (i + 1) j p) e
    ∙ ap (λ b. b || (is_reached C (drop (i + 1) xs) p || is_reached C (drop j ys) p)) (reached-push C all (get_or xs i 0) p)
    ∙ left_taken (reaches C (get_or xs i 0) p) (is_reached C all p) (is_reached C (drop (i + 1) xs) p) (is_reached C (drop j ys) p)
    ∙ ap (λ b. is_reached C all p || (b || is_reached C (drop j ys) p)) (sym (reached-drop C xs i p small))

pub is_reached_by_any-right : (C : List ChangeParts) (xs ys all new : List ℕ) (i j p : ℕ) → j < length ys → new ≡ all ++ get_or ys j 0 ∷ [] → is_reached_by_any C xs ys new i (j + 1) p ≡ is_reached_by_any C xs ys all i j p
is_reached_by_any-right C xs ys all new i j p small e =
    ap (λ l. is_reached_by_any C xs ys l i (j + 1) p) e
    ∙ ap (λ b. b || (is_reached C (drop i xs) p || is_reached C (drop (j + 1) ys) p)) (reached-push C all (get_or ys j 0) p)
    ∙ right_taken (reaches C (get_or ys j 0) p) (is_reached C all p) (is_reached C (drop i xs) p) (is_reached C (drop (j + 1) ys) p)
    ∙ ap (λ b. is_reached C all p || (is_reached C (drop i xs) p || b)) (sym (reached-drop C ys j p small))

pub is_reached_by_any-both : (C : List ChangeParts) (xs ys all new : List ℕ) (i j p : ℕ) → i < length xs → j < length ys → same_author C (get_or xs i 0) (get_or ys j 0) ≡ true
    → new ≡ all ++ later (get_or xs i 0) (get_or ys j 0) ∷ [] → is_reached_by_any C xs ys new (i + 1) (j + 1) p ≡ is_reached_by_any C xs ys all i j p
is_reached_by_any-both C xs ys all new i j p small near same e =
    ap (λ l. is_reached_by_any C xs ys l (i + 1) (j + 1) p) e
    ∙ ap (λ b. b || (is_reached C (drop (i + 1) xs) p || is_reached C (drop (j + 1) ys) p)) (reached-push C all (later (get_or xs i 0) (get_or ys j 0)) p)
    ∙ ap (λ b. (b || is_reached C all p) || (is_reached C (drop (i + 1) xs) p || is_reached C (drop (j + 1) ys) p)) (reaches-both C (get_or xs i 0) (get_or ys j 0) p same)
    ∙ both_taken (reaches C (get_or xs i 0) p) (reaches C (get_or ys j 0) p) (is_reached C all p) (is_reached C (drop (i + 1) xs) p) (is_reached C (drop (j + 1) ys) p)
    ∙ ap (λ b. is_reached C all p || (b || (reaches C (get_or ys j 0) p || is_reached C (drop (j + 1) ys) p))) (sym (reached-drop C xs i p small))
    ∙ ap (λ b. is_reached C all p || (is_reached C (drop i xs) p || b)) (sym (reached-drop C ys j p near))

-- ---- places

places-In : (C : List ChangeParts) (T : List ℕ) (t : ℕ) → ArePlaces C T → In t T → t < length C
places-In C T t p i =
    let w = In-index t T i in
    let e : get_or T w.0 0 ≡ t = w.2 0 in
    let small : get_or T w.0 0 < length C = p w.0 w.1 in
    omega arith

-- ---- the prefix

-- latest places before the prefix hold nothing else
pub held-kept : (C : List ChangeParts) (T : List ℕ) (f i : ℕ) → is_held C f (filter (λ t. nat_le f t) T) i ≡ is_held C f T i
held-kept C [] f i = refl
held-kept C (t ∷ T) f i =
    elim (nat_le f t) as (λ b. nat_le f t ≡ b → is_held C f (cond b (t ∷ filter (λ s. nat_le f s) T) (filter (λ s. nat_le f s) T)) i ≡ is_held C f (t ∷ T) i) [
      | true ↦ λ e. kept (nat_lt i f) (reaches C t i) (is_reached C (filter (λ s. nat_le f s) T) i) (is_reached C T i) (held-kept C T f i)
      | false ↦ λ e. passed (nat_lt i f) (reaches C t i) (is_reached C (filter (λ s. nat_le f s) T) i) (is_reached C T i)
          (λ r. let low : nat_le i t ≡ true = both_left (nat_le i t) (same_author C t i) r in grind (arith, nat_tests))
          (held-kept C T f i)
    ] refl where
      kept : (l r x y : Bool) → (l || x) ≡ (l || y) → (l || (r || x)) ≡ (l || (r || y))
      kept l r x y e = grind arith

      passed : (l r x y : Bool) → (r ≡ true → l ≡ true) → (l || x) ≡ (l || y) → (l || x) ≡ (l || (r || y))
      passed l true x y h e = rw (h refl) refl
      passed l false x y h e = e

-- ---- pasts

-- a past of two lists of hashes is that of one or of the other
past-either : (C : List ChangeParts) (H K : List Hash) (c : ChangeParts) → Sound C → In c (past C (H ++ K)) → In c (past C H) ⊎ In c (past C K)
past-either C H K c s i =
    let p = InPast-from_past C (H ++ K) c i in
    elim (In-append p.1 H K p.2) [
      | inl j ↦ inl (past-from_InPast C H (deps_first C s) c (p.0, p.1, j, p.3))
      | inr j ↦ inr (past-from_InPast C K (deps_first C s) c (p.0, p.1, j, p.3))
    ]

-- the past of a change is the change and the past of its dependencies
past-own : (C : List ChangeParts) (d c : ChangeParts) → Sound C → In d C → In c (past C (hash_of d ∷ [])) → (c ≡ d) ⊎ In c (past C d.deps)
past-own C d c s there i =
    let p = InPast-from_past C (hash_of d ∷ []) c i in
    elim p.2 [
      | inl e ↦ by p.3.0 (subst (λ h. Chain C p.3.0 h (hash_of c)) e p.3.1) p.0
      | inr n ↦ absurd n
    ] where
      by : (n : ℕ) → Chain C n (hash_of d) (hash_of c) → In c C → (c ≡ d) ⊎ In c (past C d.deps)
      by zero k j = inl (hashes_apart C s c d j there (sym k))
      by (suc n) k j =
          let one : k.0 ≡ d = hashes_apart C s k.0 d k.1 there k.2 in
          inr (past-from_InPast C d.deps (deps_first C s) c (j, k.3, subst (λ (x : ChangeParts). In k.3 x.deps) one k.4, (n, k.5)))

past-deps : (C : List ChangeParts) (d c : ChangeParts) → Sound C → In d C → In c (past C d.deps) → In c (past C (hash_of d ∷ []))
past-deps C d c s there i =
    let p = InPast-from_past C d.deps c i in
    past-from_InPast C (hash_of d ∷ []) (deps_first C s) c (p.0, hash_of d, inl refl, (suc p.3.0, (d, there, refl, p.1, p.2, p.3.1)))

-- ---- one more change

reached-longer : (C : List ChangeParts) (x : ChangeParts) (T : List ℕ) (i : ℕ) → ((t : ℕ) → In t T → t < length C) → i < length C → is_reached (C ++ x ∷ []) T i ≡ is_reached C T i
reached-longer C x [] i p small = refl
reached-longer C x (t ∷ T) i p small =
    ap (λ o. (nat_le i t && same_author_of o (slice_get (C ++ x ∷ []) i)) || is_reached (C ++ x ∷ []) T i) (at_left C x t (p t (inl refl)))
    ∙ ap (λ o. (nat_le i t && same_author_of (slice_get C t) o) || is_reached (C ++ x ∷ []) T i) (at_left C x i small)
    ∙ ap (λ b. reaches C t i || b) (reached-longer C x T i (λ s j. p s (inr j)) small)

-- no latest place reaches past the end
reached-end : (C D : List ChangeParts) (T : List ℕ) → ((t : ℕ) → In t T → t < length C) → is_reached D T (length C) ≡ true → ⊥
reached-end C D [] p r = cc
reached-end C D (t ∷ T) p r =
    elim (or_cases (reaches D t (length C)) (is_reached D T (length C)) r) [
      | inl u ↦
          let low : nat_le (length C) t ≡ true = both_left (nat_le (length C) t) (same_author D t (length C)) u in
          let small : t < length C = p t (inl refl) in
          absurd (grind (arith, nat_tests))
      | inr u ↦ reached-end C D T (λ s j. p s (inr j)) u
    ]

-- a version vector stays that of its past where a change enters
pub IsVectorOf-push : (C : List ChangeParts) (x : ChangeParts) (H : List Hash) (e : VersionVector) → Sound C → Fits C x → has_all C H ≡ true → IsVectorOf C H e → IsVectorOf (C ++ x ∷ []) H e
IsVectorOf-push C x H e s f all w =
    let more : length (C ++ x ∷ []) ≡ length C + 1 = length-append C (x ∷ []) in
    let prefix : e.prefix ≤ length C = w.placed.prefix in
    record {
      placed = record { prefix = omega arith; latest = λ k small. let low = w.placed.latest k small in omega arith };
      held = λ i c at. by i c (at_push C x i c at);
    } where
      inside : (t : ℕ) → In t e.latest.items → t < length C
      inside t j = places-In C e.latest.items t w.placed.latest j

      same : past (C ++ x ∷ []) H ≡ past C H
      same = past-push_other C H x (not_among C H x all f.new)

      by : (i : ℕ) (c : ChangeParts) → ((slice_get C i ≡ Some c) ⊎ ((i ≡ length C) × (c ≡ x))) → (is_held (C ++ x ∷ []) e.prefix e.latest.items i ≡ true) ↔ In c (past (C ++ x ∷ []) H)
      by i c (inl at) =
          let small : i < length C = slice_get_within C i c at in
          let held : is_held (C ++ x ∷ []) e.prefix e.latest.items i ≡ is_held C e.prefix e.latest.items i = ap (λ b. nat_lt i e.prefix || b) (reached-longer C x e.latest.items i inside small) in (
            λ h. subst (λ (l : List ChangeParts). In c l) (sym same) ((w.held i c at).0 (sym held ∙ h)),
            λ j. held ∙ (w.held i c at).1 (subst (λ (l : List ChangeParts). In c l) same j),
          )
      by i c (inr z) = (
        λ h. elim (or_cases (nat_lt i e.prefix) (is_reached (C ++ x ∷ []) e.latest.items i) h) [
          | inl u ↦ let prefix : e.prefix ≤ length C = w.placed.prefix in let at : i ≡ length C = z.0 in absurd (grind (arith, nat_tests))
          | inr u ↦ absurd (reached-end C (C ++ x ∷ []) e.latest.items inside (subst (λ (m : ℕ). is_reached (C ++ x ∷ []) e.latest.items m ≡ true) z.0 u))
        ],
        λ j. never (In-has C c (hash_of x) (past-In C H c (subst (λ (l : List ChangeParts). In c l) same j)) (ap hash_of z.1)) f.new,
      )

-- ---- an actor's changes

-- each change of an actor is in the past of its later ones
has_own : (C : List ChangeParts) (i q : ℕ) (c d : ChangeParts) → Sound C → slice_get C i ≡ Some c → slice_get C q ≡ Some d → i < q → same_actor c.actor d.actor ≡ true → In c (past C d.deps)
has_own C i q c d s at there less same =
    let small : q < length C = slice_get_within C q d there in
    let long : length (take q C) ≡ q = length-take-le q C (omega arith) in
    let split : take q C ++ d ∷ drop (suc q) C ≡ C =
    ap (λ x. take q C ++ x ∷ drop (suc q) C) (sym (get_or_from_slice_get C q d d there)) ∙ ap (λ l. take q C ++ l) (sym (drop-cons C q d small)) ∙ take-append-drop q C in
    let whole = subst Sound (sym split) s in
    let f = Fits-at (take q C) d (drop (suc q) C) whole in
    let here : get_or (take q C) i c ≡ c = get_or-take q C i c less ∙ get_or_from_slice_get C i c c at in
    let early : In c (take q C) = subst (λ x. In x (take q C)) here (In-get_or (take q C) i c (omega arith)) in
    let inside = own_past (take q C) d c (Sound-prefix (take q C) (d ∷ drop (suc q) C) whole) f early same in
    subst (λ D. In c (past D d.deps)) split (subst (λ l. In c l) (sym (Sound-before (take q C) (d ∷ drop (suc q) C) d.deps f.deps whole)) inside)

-- ---- joining

-- a change is at one place
one_place : (C : List ChangeParts) (i q : ℕ) (c : ChangeParts) → HashesOnce C → slice_get C i ≡ Some c → slice_get C q ≡ Some c → i ≡ q
one_place [] i q c o e f = cc
one_place (x ∷ C) zero zero c o e f = refl
one_place (x ∷ C) zero (suc q) c o e f = let s : x ≡ c = cc in never (In-has C c (hash_of x) (In-slice_get C q c f) (ap hash_of (sym s))) o.0
one_place (x ∷ C) (suc i) zero c o e f = let s : x ≡ c = cc in never (In-has C c (hash_of x) (In-slice_get C i c e) (ap hash_of (sym s))) o.0
one_place (x ∷ C) (suc i) (suc q) c o e f = ap suc (one_place C i q c o.1 e f)

-- the latest place at a change's place reaches the change, and else what the change depends on
reaches-own : (C : List ChangeParts) (q i : ℕ) (d c : ChangeParts) → Sound C → slice_get C q ≡ Some d → slice_get C i ≡ Some c → reaches C q i ≡ true → (c ≡ d) ⊎ In c (past C d.deps)
reaches-own C q i d c s there at r =
    let low : nat_le i q ≡ true = both_left (nat_le i q) (same_author C q i) r in
    let who : same_actor d.actor c.actor ≡ true = subst (λ o. same_author_of (Some d) o ≡ true) at (subst (λ o. same_author_of o (slice_get C i) ≡ true) there (both_right (nat_le i q) (same_author C q i) r)) in
    elim (truth (nat_lt i q)) [
      | inl t ↦
          let less : i < q = grind (arith, nat_tests) in
          inr (has_own C i q c d s at there less (same_actor-flip d.actor c.actor who))
      | inr g ↦
          let one : i ≡ q = grind (arith, nat_tests) in
          let same : Some c ≡ Some d = sym at ∙ ap (slice_get C) one ∙ there in
          let is : c ≡ d = cc in
          inl is
    ]

reaches-itself : (C : List ChangeParts) (q : ℕ) (d : ChangeParts) → slice_get C q ≡ Some d → reaches C q q ≡ true
reaches-itself C q d there =
    let low : nat_le q q ≡ true = grind (arith, nat_tests) in
    both (nat_le q q) (same_author C q q) low (subst (λ o. same_author_of o o ≡ true) (sym there) (same_actor-itself d.actor))

-- a version vector joined with that of a change, and with the change
IsVectorOf-joined : (C : List ChangeParts) (H : List Hash) (q : ℕ) (d : ChangeParts) (old own new : VersionVector)
    → Sound C → IsVectorOf C H old → slice_get C q ≡ Some d → IsVectorOf C d.deps own → IsPlaced C new
    → ((i : ℕ) → is_held C new.prefix new.latest.items i ≡ ((reaches C q i || is_held C own.prefix own.latest.items i) || is_held C old.prefix old.latest.items i))
    → IsVectorOf C (H ++ hash_of d ∷ []) new
IsVectorOf-joined C H q d old own new s w there v placed joins = record { placed = placed; held = λ i c at. (into i c at, back i c at) } where
  K : List Hash
  K = H ++ hash_of d ∷ []

  d_In : In d C
  d_In = In-slice_get C q d there

  last : AllIn (hash_of d ∷ []) (H ++ hash_of d ∷ [])
  last h j = In-right h H (hash_of d ∷ []) j

  of_own : (c : ChangeParts) → In c (past C d.deps) → In c (past C (H ++ hash_of d ∷ []))
  of_own c j = past-more C (hash_of d ∷ []) (H ++ hash_of d ∷ []) last c (past-deps C d c s d_In j)

  of_d : (c : ChangeParts) → c ≡ d → In c (past C (H ++ hash_of d ∷ []))
  of_d c e = subst (λ y. In y (past C (H ++ hash_of d ∷ []))) (sym e) (past-named C (H ++ hash_of d ∷ []) d d_In (In-right (hash_of d) H (hash_of d ∷ []) (inl refl)))

  into : (i : ℕ) (c : ChangeParts) → slice_get C i ≡ Some c → is_held C new.prefix new.latest.items i ≡ true → In c (past C (H ++ hash_of d ∷ []))
  into i c at h =
      elim (or_cases (reaches C q i || is_held C own.prefix own.latest.items i) (is_held C old.prefix old.latest.items i) (sym (joins i) ∙ h)) [
        | inl u ↦ elim (or_cases (reaches C q i) (is_held C own.prefix own.latest.items i) u) [
          | inl r ↦ elim (reaches-own C q i d c s there at r) [ inl e ↦ of_d c e | inr j ↦ of_own c j ]
          | inr r ↦ of_own c ((v.held i c at).0 r)
        ]
        | inr u ↦ past-more C H (H ++ hash_of d ∷ []) (λ g j. In-left g H (hash_of d ∷ []) j) c ((w.held i c at).0 u)
      ]

  back : (i : ℕ) (c : ChangeParts) → slice_get C i ≡ Some c → In c (past C (H ++ hash_of d ∷ [])) → is_held C new.prefix new.latest.items i ≡ true
  back i c at j =
      joins i
      ∙ elim (past-either C H (hash_of d ∷ []) c s j) [
        | inl k ↦ or_right (reaches C q i || is_held C own.prefix own.latest.items i) (is_held C old.prefix old.latest.items i) ((w.held i c at).1 k)
        | inr k ↦
            or_left (reaches C q i || is_held C own.prefix own.latest.items i) (is_held C old.prefix old.latest.items i)
            (elim (past-own C d c s d_In k) [
              | inl e ↦
                  let here : slice_get C i ≡ Some d = at ∙ ap Some e in
                  let one : q ≡ i = one_place C q i d (hashes_once C s) there here in
                  or_left (reaches C q i) (is_held C own.prefix own.latest.items i) (subst (λ (m : ℕ). reaches C q m ≡ true) one (reaches-itself C q d there))
              | inr m ↦ or_right (reaches C q i) (is_held C own.prefix own.latest.items i) ((v.held i c at).1 m)
            ])
      ]

-- the step over one of the hashes, where a change has it
pub IsVectorOf-known : (C : List ChangeParts) (H : List Hash) (n : ℕ) (h : Hash) (q : ℕ) (old own new : VersionVector)
    → Sound C → n < length H → IsVectorOf C (take n H) old → Some q ≡ place_from 0 C (get_or H n h) → ((d : ChangeParts) → slice_get C q ≡ Some d → IsVectorOf C d.deps own) → IsPlaced C new
    → ((i : ℕ) → is_held C new.prefix new.latest.items i ≡ ((reaches C q i || is_held C own.prefix own.latest.items i) || is_held C old.prefix old.latest.items i))
    → IsVectorOf C (take (n + 1) H) new
IsVectorOf-known C H n h q old own new s small w at known placed joins =
    let found = place_from-some C (get_or H n h) q at in
    let d = found.1.0 in
    let there : slice_get C q ≡ Some d = found.1.1 in
    let has_it : hash_of d ≡ get_or H n h = found.1.2 in
    subst (λ l. IsVectorOf C l new) (sym (take_more H n h small))
    (subst (λ g. IsVectorOf C (take n H ++ g ∷ []) new) has_it (IsVectorOf-joined C (take n H) q d old own new s w there (known d there) placed joins))

-- a vector of the first n hashes is one of n + 1, where no change has the next hash
pub IsVectorOf-unknown : (C : List ChangeParts) (H : List Hash) (n : ℕ) (h : Hash) (e : VersionVector)
    → Sound C → n < length H → IsVectorOf C (take n H) e → None ≡ place_from 0 C (get_or H n h) → IsVectorOf C (take (n + 1) H) e
IsVectorOf-unknown C H n h e s small w none =
    let lacks : has C (get_or H n h) ≡ false = has-from_place C (get_or H n h) none in
    subst (λ l. IsVectorOf C l e) (sym (take_more H n h small)) (record {
      placed = w.placed;
      held = λ i c at. (
        λ t. past-more C (take n H) (take n H ++ get_or H n h ∷ []) (λ g j. In-left g (take n H) (get_or H n h ∷ []) j) c ((w.held i c at).0 t),
        λ j. elim (past-either C (take n H) (get_or H n h ∷ []) c s j) [
          | inl k ↦ (w.held i c at).1 k
          | inr k ↦ absurd (no_past c lacks k)
        ],
      );
    }) where
      start : (n : ℕ) (k : Hash) (c : ChangeParts) → Chain C n k (hash_of c) → In c C → has C k ≡ true
      start zero k c e j = In-has C c k j (sym e)
      start (suc n) k c e j = In-has C e.0 k e.1 e.2

      no_past : (c : ChangeParts) → has C (get_or H n h) ≡ false → In c (past C (get_or H n h ∷ [])) → ⊥
      no_past c lacks k =
          let p = InPast-from_past C (get_or H n h ∷ []) c k in
          elim p.2 [
            | inl e ↦ never (start p.3.0 (get_or H n h) c (subst (λ g. Chain C p.3.0 g (hash_of c)) e p.3.1) p.0) lacks
            | inr z ↦ z
          ]

-- the version vector of no hashes
past-none : (C : List ChangeParts) (c : ChangeParts) → In c (past C []) → ⊥
past-none C c i = let p = InPast-from_past C [] c i in p.2

pub IsVectorOf-none : (C : List ChangeParts) (H : List Hash) (e : VersionVector) → e.prefix ≡ 0 → e.latest.items ≡ [] → IsVectorOf C (take 0 H) e
IsVectorOf-none C H e prefix latest = record {
  placed = record { prefix = omega arith; latest = subst (ArePlaces C) (sym latest) (λ k small. absurd (omega arith)) };
  held = λ i c at. (
    λ t. absurd (never t (none i)),
    λ j. absurd (past-none C c j),
  );
} where
  none : (i : ℕ) → is_held C e.prefix e.latest.items i ≡ false
  none i = let low : nat_lt i e.prefix ≡ false = grind (arith, nat_tests) in ap (λ b. b || is_reached C e.latest.items i) low ∙ ap (λ l. is_reached C l i) latest

-- the version vector of the whole
pub IsVectorOf-whole : (C : List ChangeParts) (H : List Hash) (e : VersionVector) → past C H ≡ C → e.prefix ≡ length C → e.latest.items ≡ [] → IsVectorOf C H e
IsVectorOf-whole C H e whole prefix latest = record {
  placed = record { prefix = omega arith; latest = subst (ArePlaces C) (sym latest) (λ k small. absurd (omega arith)) };
  held = λ i c at. (
    λ t. subst (λ (l : List ChangeParts). In c l) (sym whole) (In-slice_get C i c at),
    λ j.
        let small : i < length C = slice_get_within C i c at in
        let low : nat_lt i e.prefix ≡ true = grind (arith, nat_tests) in
        or_left (nat_lt i e.prefix) (is_reached C e.latest.items i) low,
  );
}

-- ---- a version vector as marks

length-held_from : (C : List ChangeParts) (f : ℕ) (T : List ℕ) (n : ℕ) (D : List ChangeParts) → length (held_from C f T n D) ≡ length D
length-held_from C f T n [] = refl
length-held_from C f T n (c ∷ D) = ap suc (length-held_from C f T (n + 1) D)

pub length-held : (C : List ChangeParts) (e : VersionVector) → length (held_from C e.prefix e.latest.items 0 C) ≡ length C
length-held C e = length-held_from C e.prefix e.latest.items 0 C

held_at_from : (C : List ChangeParts) (f : ℕ) (T : List ℕ) (n i : ℕ) (D : List ChangeParts) → i < length D → get_or (held_from C f T n D) i false ≡ is_held C f T (n + i)
held_at_from C f T n i [] h = absurd (omega arith)
held_at_from C f T n zero (c ∷ D) h = let e : n ≡ n + 0 = omega arith in ap (λ m. is_held C f T m) e
held_at_from C f T n (suc i) (c ∷ D) h =
    let e : n + 1 + i ≡ n + suc i = omega arith in
    held_at_from C f T (n + 1) i D (omega arith) ∙ ap (λ m. is_held C f T m) e

pub held_at : (C : List ChangeParts) (f : ℕ) (T : List ℕ) (i : ℕ) → i < length C → is_held C f T i ≡ get_or (held_from C f T 0 C) i false
held_at C f T i small =
    let e : 0 + i ≡ i = omega arith in
    sym (held_at_from C f T 0 i C small ∙ ap (λ m. is_held C f T m) e)

-- the places that the version vector of a past holds are those that a walk marks
pub held-marks : (C : List ChangeParts) (H : List Hash) (e : VersionVector) → Sound C → IsVectorOf C H e → held_from C e.prefix e.latest.items 0 C ≡ marks C H
held-marks C H e s w =
    ext_get_or false (held_from C e.prefix e.latest.items 0 C) (marks C H) (length-held C e ∙ sym (length-marks C H))
    (λ i less. by i (subst (λ (n : ℕ). i < n) (length-held C e) less)) where
      by : (i : ℕ) → i < length C → get_or (held_from C e.prefix e.latest.items 0 C) i false ≡ get_or (marks C H) i false
      by i small =
          let at = slice_get-there C i small in
          sym (held_at C e.prefix e.latest.items i small)
          ∙ same_test (is_held C e.prefix e.latest.items i) (get_or (marks C H) i false)
          (λ t. marked-pick (marks C H) C i at.0 (hashes_once C s) at.1 (subst (λ (l : List ChangeParts). In at.0 l) (sym (pick-marks C H)) ((w.held i at.0 at.1).0 t)))
          (λ t. (w.held i at.0 at.1).1 (subst (λ (l : List ChangeParts). In at.0 l) (pick-marks C H) (pick-marked (marks C H) C i at.0 at.1 t)))

-- there is a mark for each change
pub length-bits : (past_set : PastSet) (C : List ChangeParts) → IsPastSetIn past_set C → length (bits past_set C) ≡ length C
length-bits (Within e) C h = length-held C e
length-bits (Marked v) C h = h

-- the changes that have a mark are the past, where the marks are those of a walk
pub past_changes-past : (past_set : PastSet) (C : List ChangeParts) (H : List Hash) → bits past_set C ≡ marks C H → past_changes past_set C ≡ past C H
past_changes-past past_set C H e = ap (λ bs. pick bs C) e ∙ pick-marks C H

-- before its prefix a past has every mark
pub prefix-marked : (past_set : PastSet) (C : List ChangeParts) (i : ℕ) → i < length C → i < prefix_of past_set → get_or (bits past_set C) i false ≡ true
prefix-marked (Within e) C i small less =
    let low : nat_lt i e.prefix ≡ true = grind (arith, nat_tests) in
    sym (held_at C e.prefix e.latest.items i small) ∙ or_left (nat_lt i e.prefix) (is_reached C e.latest.items i) low
prefix-marked (Marked v) C i small less = absurd (omega arith)
