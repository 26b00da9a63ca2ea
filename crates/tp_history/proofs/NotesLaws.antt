-- Laws of the notes of places.
use Rattle.tp_history.proofs.Common.{◌≡◌, ◌≢◌, ◌⊎◌, ℕ, suc, zero, ◌+◌, ◌-◌, ◌<◌, ◌≤◌, inl, inr, List, [], ◌∷◌, ◌++◌, length, Bool, true, false, cond, Option, Some, None, IfSome, refl, sym, ap, ◌∙◌, subst, arith, add-zero, slice_get, slice_get_within, set, never, not_true, truth, In-slice_get, Hash, same_hash, same_hash-same, same_hash-itself, ChangeParts, hash_of, HashesOnce, has, place_from, note_at, first_word, first_slot, place_in, NOWHERE, WINDOW, OnOk, Ok, Err, Result, Notes, IsLike, IsSlotFor, IsReached, IsFree, FindsPlace, IsNotedAt, AreNoted, HasAt, StandStill, HasPlace, AreNotedWith, AreInSlots, AreCarried, IsNotedBeside, cases_eq, cases_lt, length-set, and_le_r}
use Rattle.tp_history.proofs.NamedLaws.{In-has}
use Rattle.tp_history.proofs.PlacesLaws.{at_push, place_from-none, place_from-there, HasAt-has}

-- where each hash is there once, what is at a place has it as its place
place_at : (n : ℕ) (C : List ChangeParts) (h : Hash) (i : ℕ) → HashesOnce C → HasAt C i h → place_from n C h ≡ Some (n + i)
place_at n [] h i once w = let bad : None ≡ Some w.0 = w.1 in cc
place_at n (c ∷ C) h zero once w =
    let one : c ≡ w.0 = cc in
    let same : same_hash (hash_of c) h ≡ true = subst (λ g. same_hash (hash_of c) g ≡ true) (ap hash_of one ∙ w.2) (same_hash-itself (hash_of c)) in
    ap (λ b. cond b (Some n) (place_from (n + 1) C h)) same ∙ ap Some (sym (add-zero n))
place_at n (c ∷ C) h (suc i) once w =
    let apart : same_hash (hash_of c) h ≡ false
    = not_true (same_hash (hash_of c) h) (λ t. never (HasAt-has C i h w) (subst (λ g. has C g ≡ false) (same_hash-same (hash_of c) h t) once.0)) in
    let step : n + 1 + i ≡ n + suc i = omega arith in
    ap (λ b. cond b (Some n) (place_from (n + 1) C h)) apart ∙ place_at (n + 1) C h i once.1 w ∙ ap Some step

pub place_is : (C : List ChangeParts) (h : Hash) (i : ℕ) → HashesOnce C → HasAt C i h → Some i ≡ place_from 0 C h
place_is C h i once w = let first : 0 + i ≡ i = omega arith in sym (place_at 0 C h i once w ∙ ap Some first)

-- the place of a hash that no slot notes
pub place_by_hash : (C : List ChangeParts) (n : Notes) (h : Hash) (o : Option ℕ) → HashesOnce C → AreNoted C n → ((p : ℕ) → FindsPlace n.slots (first_word h) p → HasAt C p h → ⊥)
    → IfSome o (λ p. HasAt C p h) → ((p : ℕ) → note_at n.hashes h ≡ Some p → HasAt C p h → o ≡ Some p) → o ≡ place_from 0 C h
place_by_hash C n h (Some p) once notes first there found = place_is C h p once there
place_by_hash C n h None once notes first there found =
    sym (place_from-none 0 C h (not_true (has C h)
    (λ t.
    let w = place_from-there 0 C h t in
    let i : ℕ = w.0 in
    let at : HasAt C i h = w.3 in
    elim (subst (λ g. IsNotedAt n g i) at.2 (notes i at.0 at.1)) [
      | inl e ↦ first i e at
      | inr e ↦ let bad : None ≡ Some i = found i e at in cc
    ])))

-- ---- one more note

-- a note for a whole hash that isn't there leaves the others
pub AreNoted-hash : (C : List ChangeParts) (old new : Notes) (h : Hash) (p : ℕ) → has C h ≡ false → new.slots ≡ old.slots
    → ((other : Hash) → note_at new.hashes other ≡ cond (same_hash h other) (Some p) (note_at old.hashes other)) → AreNoted C old → AreNoted C new
AreNoted-hash C old new h p lacks slots notes w i c at = elim (w i c at) [
  | inl e ↦ inl (subst (λ l. FindsPlace l (first_word (hash_of c)) i) (sym slots) e)
  | inr e ↦
      let apart : same_hash h (hash_of c) ≡ false
      = not_true (same_hash h (hash_of c)) (λ t. never (In-has C c h (In-slice_get C i c at) (sym (same_hash-same h (hash_of c) t))) lacks) in
      inr (notes (hash_of c) ∙ ap (λ b. cond b (Some p) (note_at old.hashes (hash_of c))) apart ∙ e)
]

pub noted_hash : (old new : Notes) (h : Hash) (p : ℕ) → ((other : Hash) → note_at new.hashes other ≡ cond (same_hash h other) (Some p) (note_at old.hashes other)) → IsNotedAt new h p
noted_hash old new h p notes = inr (notes h ∙ ap (λ b. cond b (Some p) (note_at old.hashes h)) (same_hash-itself h))

-- ---- slots

-- None of the slots from the first to before the number is like the word and notes the place of a change with the hash.
abbrev pub Passed : List ℕ → List ChangeParts → Hash → ℕ → ℕ → ℕ → Type 0
Passed slots C h word first number = (k : ℕ) → k < number → first ≤ k → (s : ℕ) → slice_get slots k ≡ Some s → IsLike (length slots) s word → HasAt C (place_in (length slots) s) h → ⊥

-- what is read in a list in which an item was put at a place
at_set : {X : Type 0} (xs : List X) (i : ℕ) (y : X) → i < length xs → slice_get (set xs i y) i ≡ Some y
at_set [] i y h = absurd (omega arith)
at_set (x ∷ xs) zero y h = refl
at_set (x ∷ xs) (suc i) y h = at_set xs i y (omega arith)

beside_set : {X : Type 0} (xs : List X) (i k : ℕ) (y : X) → (k ≡ i → ⊥) → slice_get (set xs i y) k ≡ slice_get xs k
beside_set [] i k y apart = refl
beside_set (x ∷ xs) zero zero y apart = absurd (apart refl)
beside_set (x ∷ xs) zero (suc k) y apart = refl
beside_set (x ∷ xs) (suc i) zero y apart = refl
beside_set (x ∷ xs) (suc i) (suc k) y apart = beside_set xs i k y (λ e. apart (ap suc e))

-- a slot that is reached stays so where a place is put into a slot
reached_still : (slots : List ℕ) (word k number slot : ℕ) → slot ≢ NOWHERE → IsReached slots word k → IsReached (set slots number slot) word k
reached_still slots word k number slot is_taken r =
    let same : length (set slots number slot) ≡ length slots = length-set slots number slot in
    record {
      room = subst (λ n. WINDOW ≤ n) (sym same) r.room;
      low = subst (λ n. first_slot word n ≤ k) (sym same) r.low;
      high = subst (λ n. k < first_slot word n + WINDOW) (sym same) r.high;
      taken = subst (λ n. (i : ℕ) → first_slot word n ≤ i → i < k → (s : ℕ) → slice_get (set slots number slot) i ≡ Some s → s ≡ NOWHERE → ⊥) (sym same) taken;
    } where
      taken : (i : ℕ) → first_slot word (length slots) ≤ i → i < k → (s : ℕ) → slice_get (set slots number slot) i ≡ Some s → s ≡ NOWHERE → ⊥
      taken i low high s is none = elim (cases_eq i number) [
        | inl e ↦
            let room = r.room in
            let within : i < length (set slots number slot) = slice_get_within (set slots number slot) i s is in
            let inside : number < length slots = omega (arith, length-set slots number slot) in
            let here : Some s ≡ Some slot = sym is ∙ ap (slice_get (set slots number slot)) e ∙ at_set slots number slot inside in
            let one : s ≡ slot = cc in
            is_taken (sym one ∙ none)
        | inr apart ↦ r.taken i low high s (sym (beside_set slots number i slot apart) ∙ is) none
      ]

-- a slot that is reached is within the table
reached_within : (slots : List ℕ) (word number : ℕ) → IsReached slots word number → number < length slots
reached_within slots word number r =
    let room = r.room in
    let high = r.high in
    omega (arith, and_le_r word (length slots - WINDOW))

-- a place that is put into one is there
pub present_there : (slots : List ℕ) (word place number slot : ℕ) → IsReached slots word number → IsSlotFor (length slots) word place slot → FindsPlace (set slots number slot) word place
present_there slots word place number slot r w = record {
  number = number;
  reached = reached_still slots word number number slot w.taken r;
  slot = slot;
  here = at_set slots number slot (reached_within slots word number r);
  is = subst (λ n. IsSlotFor n word place slot) (sym (length-set slots number slot)) w;
}

-- and what notes a place before the bound stays
pub present_still : (slots : List ℕ) (w bound number slot : ℕ) → slot ≢ NOWHERE → IsFree slots w bound number → StandStill slots (set slots number slot) bound
present_still slots w bound number slot is_taken f = λ word p less r. record {
  number = r.number;
  reached = reached_still slots word r.number number slot is_taken r.reached;
  slot = r.slot;
  here = beside_set slots number r.number slot (apart word p less r) ∙ r.here;
  is = subst (λ n. IsSlotFor n word p r.slot) (sym (length-set slots number slot)) r.is;
} where
  apart : (word p : ℕ) → p < bound → (r : FindsPlace slots word p) → r.number ≡ number → ⊥
  apart word p less r e = elim (f.free r.slot (ap (slice_get slots) (sym e) ∙ r.here)) [
    | inl none ↦ r.is.taken none
    | inr free ↦
        let notes = r.is.notes in
        absurd (omega arith)
  ]

-- so a note in slots for the place after those of all changes leaves the others
pub AreNoted-slot : (C : List ChangeParts) (old new : Notes) (p : ℕ) → p ≡ length C → StandStill old.slots new.slots p → new.hashes ≡ old.hashes → AreNoted C old → AreNoted C new
AreNoted-slot C old new p end still hashes w i c at = elim (w i c at) [
  | inl e ↦
      let within : i < length C = slice_get_within C i c at in
      let less : i < p = omega arith in
      inl (still (first_word (hash_of c)) i less e)
  | inr e ↦ inr (ap (λ l. note_at l (hash_of c)) hashes ∙ e)
]

-- where there is no table, all are noted by whole hashes, and a first one changes nothing
pub AreNoted-first : (C : List ChangeParts) (old new : Notes) → length old.slots < WINDOW → new.hashes ≡ old.hashes → AreNoted C old → AreNoted C new
AreNoted-first C old new none hashes w i c at = elim (w i c at) [
  | inl e ↦
      let room = e.reached.room in
      absurd (omega arith)
  | inr e ↦ inr (ap (λ l. note_at l (hash_of c)) hashes ∙ e)
]

-- ---- all changes

-- a change enters whose place is noted
pub AreNoted-push : (C : List ChangeParts) (x : ChangeParts) (n : Notes) → AreNoted C n → IsNotedAt n (hash_of x) (length C) → AreNoted (C ++ x ∷ []) n
AreNoted-push C x n w last i c at = elim (at_push C x i c at) [
  | inl here ↦ w i c here
  | inr z ↦ subst (λ (j : ℕ). IsNotedAt n (hash_of c) j) (sym z.0) (subst (λ (d : ChangeParts). IsNotedAt n (hash_of d) (length C)) (sym z.1) last)
]

-- ---- a larger table

-- a place that is to be noted is at most the one after all changes
place_within : (C : List ChangeParts) (last : Hash) (i : ℕ) (h : Hash) → HasPlace C last i h → i ≤ length C
place_within C last i h (inl at) = let within : i < length C = slice_get_within C i at.0 at.1 in omega arith
place_within C last i h (inr at) = let end = at.0 in omega arith

-- a place has one hash
one_hash : (C : List ChangeParts) (last : Hash) (i : ℕ) (g h : Hash) → HasPlace C last i g → HasPlace C last i h → g ≡ h
one_hash C last i g h (inl a) (inl b) =
    let same : Some a.0 ≡ Some b.0 = sym a.1 ∙ b.1 in
    let one : a.0 ≡ b.0 = cc in
    sym a.2 ∙ ap hash_of one ∙ b.2
one_hash C last i g h (inl a) (inr b) =
    let within : i < length C = slice_get_within C i a.0 a.1 in
    let end = b.0 in
    absurd (omega arith)
one_hash C last i g h (inr a) (inl b) =
    let within : i < length C = slice_get_within C i b.0 b.1 in
    let end = a.0 in
    absurd (omega arith)
one_hash C last i g h (inr a) (inr b) = a.1 ∙ sym b.1

-- and a hash one place, where each is there once and no change has the last one
one_place : (C : List ChangeParts) (last h : Hash) (i j : ℕ) → HashesOnce C → has C last ≡ false → HasPlace C last i h → HasPlace C last j h → i ≡ j
one_place C last h i j once lacks (inl a) (inl b) =
    let same : Some i ≡ Some j = place_is C h i once a ∙ sym (place_is C h j once b) in
    cc
one_place C last h i j once lacks (inl a) (inr b) = absurd (never (HasAt-has C i h a) (ap (has C) b.1 ∙ lacks))
one_place C last h i j once lacks (inr a) (inl b) = absurd (never (HasAt-has C j h b) (ap (has C) a.1 ∙ lacks))
one_place C last h i j once lacks (inr a) (inr b) = a.0 ∙ sym b.0

-- an entry of the map for one hash leaves those of the others
pub noted_beside : (old new : List (Hash × ℕ)) (h : Hash) (p : ℕ) → ((other : Hash) → note_at new other ≡ cond (same_hash h other) (Some p) (note_at old other)) → IsNotedBeside old new h p
noted_beside old new h p notes other = elim (truth (same_hash h other)) [
  | inl t ↦ inr (t, notes other ∙ ap (λ b. cond b (Some p) (note_at old other)) t)
  | inr f ↦ inl (notes other ∙ ap (λ b. cond b (Some p) (note_at old other)) f)
]

-- so no entry that is right is lost by another that is
pub hashes_stay : (C : List ChangeParts) (last : Hash) (old new : List (Hash × ℕ)) (h : Hash) (p : ℕ) → HashesOnce C → has C last ≡ false → HasPlace C last p h → IsNotedBeside old new h p
    → (i : ℕ) (g : Hash) → HasPlace C last i g → note_at old g ≡ Some i → note_at new g ≡ Some i
hashes_stay C last old new h p once lacks here beside i g at e = elim (beside g) [
  | inl same ↦ same ∙ e
  | inr t ↦
      let is : h ≡ g = same_hash-same h g t.0 in
      let one : p ≡ i = one_place C last g p i once lacks (subst (λ x. HasPlace C last p x) is here) at in
      t.1 ∙ ap Some one
]

-- all stay noted where the slots are the same and no entry is lost
pub AreNotedWith-stays : (C : List ChangeParts) (last : Hash) (old new : Notes) → new.slots ≡ old.slots
    → ((i : ℕ) (g : Hash) → HasPlace C last i g → note_at old.hashes g ≡ Some i → note_at new.hashes g ≡ Some i) → AreNotedWith C last old → AreNotedWith C last new
AreNotedWith-stays C last old new slots stay w i h at = elim (w i h at) [
  | inl s ↦ inl (subst (λ l. FindsPlace l (first_word h) i) (sym slots) s)
  | inr e ↦ inr (stay i h at e)
]

-- one place more is carried, where what was in the larger table stays, no entry is lost, and the place is noted if it
-- was in slots
carried_more : (C : List ChangeParts) (last : Hash) (slots : List ℕ) (p : ℕ) (larger more : List ℕ) (old new : List (Hash × ℕ)) → length C < NOWHERE → StandStill larger more NOWHERE
    → ((i : ℕ) (g : Hash) → HasPlace C last i g → note_at old g ≡ Some i → note_at new g ≡ Some i)
    → ((i : ℕ) (h : Hash) → HasPlace C last i h → FindsPlace slots (first_word h) i → i ≡ p → FindsPlace more (first_word h) i ⊎ (note_at new h ≡ Some i))
    → AreCarried C last slots p larger old → AreCarried C last slots (p + 1) more new
carried_more C last slots p larger more old new few still stay here w i h at s less = elim (cases_lt i p) [
  | inl before ↦ elim (w i h at s before) [
    | inl r ↦
        let within : i ≤ length C = place_within C last i h at in
        inl (still (first_word h) i (omega arith) r)
    | inr e ↦ inr (stay i h at e)
  ]
  | inr past ↦
      let is : i ≡ p = omega arith in
      here i h at s is
]

-- a place that isn't marked is in no slot
pub carried_unmarked : (C : List ChangeParts) (last : Hash) (slots : List ℕ) (p : ℕ) (marks : List Bool) (larger : List ℕ) (hashes : List (Hash × ℕ)) → length C < NOWHERE
    → AreInSlots slots (length slots) marks → slice_get marks p ≢ Some true → AreCarried C last slots p larger hashes → AreCarried C last slots (p + 1) larger hashes
carried_unmarked C last slots p marks larger hashes few all none =
    carried_more C last slots p larger larger hashes hashes few (λ w q less s. s) (λ i g place e. e)
    (λ i h place s e.
    let within : s.number < length slots = slice_get_within slots s.number s.slot s.here in
    absurd (none (ap (slice_get marks) (sym e) ∙ ap (slice_get marks) (sym s.is.notes) ∙ all s.number s.slot within s.here)))

-- and any other is carried with its hash
pub carried_there : (C : List ChangeParts) (last : Hash) (slots : List ℕ) (p : ℕ) (g : Hash) (larger more : List ℕ) (old new : List (Hash × ℕ)) → length C < NOWHERE
    → HasPlace C last p g → StandStill larger more NOWHERE → ((i : ℕ) (x : Hash) → HasPlace C last i x → note_at old x ≡ Some i → note_at new x ≡ Some i)
    → FindsPlace more (first_word g) p ⊎ (note_at new g ≡ Some p) → AreCarried C last slots p larger old → AreCarried C last slots (p + 1) more new
carried_there C last slots p g larger more old new few here still stay there =
    carried_more C last slots p larger more old new few still stay
    (λ i h place s e.
    let hash : g ≡ h = one_hash C last i g h (subst (λ (j : ℕ). HasPlace C last j g) (sym e) here) place in
    subst (λ (j : ℕ). FindsPlace more (first_word h) j ⊎ (note_at new h ≡ Some j)) (sym e) (subst (λ x. FindsPlace more (first_word x) p ⊎ (note_at new x ≡ Some p)) hash there))

-- once all places are carried, all are noted in the larger table
pub carried_all : (C : List ChangeParts) (last : Hash) (old new : Notes) (place : ℕ) → length C < place → new.hashes ≡ old.hashes → AreCarried C last old.slots place new.slots old.hashes
    → AreNotedWith C last old → AreNotedWith C last new
carried_all C last old new place all hashes carried w i h at = elim (w i h at) [
  | inl s ↦
      let within : i ≤ length C = place_within C last i h at in
      elim (carried i h at s (omega arith)) [
        | inl r ↦ inl r
        | inr e ↦ inr (ap (λ l. note_at l h) hashes ∙ e)
      ]
  | inr e ↦ inr (ap (λ l. note_at l h) hashes ∙ e)
]

-- one slot more has its place marked
pub marked_more : (slots : List ℕ) (count s : ℕ) (marks : List Bool) → slice_get slots count ≡ Some s → place_in (length slots) s < length marks → AreInSlots slots count marks
    → AreInSlots slots (count + 1) (set marks (place_in (length slots) s) true)
marked_more slots count s marks at within w k t less here = elim (cases_eq (place_in (length slots) t) (place_in (length slots) s)) [
  | inl same ↦ ap (slice_get (set marks (place_in (length slots) s) true)) same ∙ at_set marks (place_in (length slots) s) true within
  | inr apart ↦
      beside_set marks (place_in (length slots) s) (place_in (length slots) t) true apart ∙ w k t (before apart) here
] where
  before : (place_in (length slots) t ≡ place_in (length slots) s → ⊥) → k < count
  before apart = elim (cases_lt k count) [
    | inl less ↦ less
    | inr past ↦
        let is : k ≡ count = omega arith in
        let one : Some t ≡ Some s = sym here ∙ ap (slice_get slots) is ∙ at in
        let same : t ≡ s = cc in
        absurd (apart (ap (place_in (length slots)) same))
  ]

-- what follows from an outcome that only a refusal leaves open
pub carried_if : {X E : Type 0} {P Q : Type 0} (r : Result X E) → (P → Q) → OnOk r P → OnOk r Q
carried_if (Ok x) f p = f p
carried_if (Err e) f p = tt
