-- An actor's changes in a sound list: where they are, that their numbers and counters rise, and which has an operation.
use Rattle.tp_history.proofs.Common.{◌≡◌, ◌⊎◌, ℕ, ◌+◌, ◌-◌, ◌<◌, ◌≤◌, inl, inr, List, [], ◌∷◌, ◌++◌, length, take, get_or, Bool, true, false, cond, nat_lt, Some, None, refl, sym, ap, ◌∙◌, subst, arith, length-append, slice_get, get_or-append, get_or-append_seam, nat_tests, take_all, take_more, length-take-le, slice_get_within, In, truth, In-push, In-slice_get, Actor, OpId, same_actor, same_actor-same, same_actor-itself, same_actor-flip, ChangeParts, op_count, next_counter, next_counter-above, ByActor, listed_places, ArePlacesBy, IsByActor, HasOp, IsMaker, count_by, past, ends_of, Sound, Fits}
use Rattle.std.proofs.lemmas.List.{append-nil}
use Rattle.tp_history.proofs.PlacesLaws.{end_at, at_left, at_last}
use Rattle.tp_history.proofs.SoundLaws.{sound-induct, Sound-prefix, Fits-at}
use Rattle.tp_history.proofs.CountLaws.{count_by-append, seqs_run, next_seq, own_past, own_one}

-- an actor's changes come before one that fits
pub own_before : (C : List ChangeParts) (x c : ChangeParts) → Sound C → Fits C x → In c C → same_actor c.actor x.actor ≡ true → (c.seq < x.seq) × (c.start + op_count c ≤ x.start)
own_before C x c s f i e =
    let bound : c.seq ≤ count_by c.actor C = (seqs_run C s).bounded c i in
    let same : count_by c.actor C ≡ count_by x.actor C = ap (λ a. count_by a C) (same_actor-same c.actor x.actor e) in
    let number : x.seq ≡ count_by x.actor C + 1 = next_seq C x s f in
    let high : c.start + op_count c ≤ next_counter (past C x.deps) = next_counter-above (past C x.deps) c (own_past C x c s f i e) in
    let start : x.start ≡ next_counter (past C x.deps) = f.start in
    (omega arith, omega arith)

-- of two changes of one actor the later starts where the earlier has ended, or after
InTurn : List ChangeParts → Type 0
InTurn C = (c d : ChangeParts) → In c C → In d C → same_actor c.actor d.actor ≡ true → c.seq < d.seq → c.start + op_count c ≤ d.start

turn_step : (C : List ChangeParts) (x : ChangeParts) → Sound C → InTurn C → Fits C x → InTurn (C ++ x ∷ [])
unfolding InTurn
turn_step C x s p f c d i j e less = by (In-push c C x i) (In-push d C x j) where
  by : (In c C ⊎ (c ≡ x)) → (In d C ⊎ (d ≡ x)) → c.start + op_count c ≤ d.start
  by (inl k) (inl l) = p c d k l e less
  by (inl k) (inr z) = subst (λ (y : ChangeParts). c.start + op_count c ≤ y.start) (sym z) (own_before C x c s f k (subst (λ (y : ChangeParts). same_actor c.actor y.actor ≡ true) z e)).1
  by (inr z) (inl l) =
      let before : d.seq < x.seq = (own_before C x d s f l (same_actor-flip x.actor d.actor (subst (λ (y : ChangeParts). same_actor y.actor d.actor ≡ true) z e))).0 in
      let same : c.seq ≡ x.seq = ap (λ (y : ChangeParts). y.seq) z in
      absurd (omega arith)
  by (inr z) (inr w) = let same : c.seq ≡ d.seq = ap (λ (y : ChangeParts). y.seq) (z ∙ sym w) in absurd (omega arith)

in_turn : (C : List ChangeParts) → Sound C → InTurn C
unfolding InTurn
in_turn = sound-induct InTurn (λ c d i j e less. absurd i) turn_step

-- ---- where they are

-- the places of an actor's changes where one more enters
ArePlacesBy-push : (C : List ChangeParts) (x : ChangeParts) (a : Actor) (ps : List ℕ) → Sound C → Fits C x → ArePlacesBy C a ps → ArePlacesBy (C ++ x ∷ []) a (ps ++ cond (same_actor x.actor a) (length C ∷ []) [])
ArePlacesBy-push C x a ps s f o = by (same_actor x.actor a) refl where
  more : (b : Bool) → same_actor x.actor a ≡ b → count_by a (C ++ x ∷ []) ≡ count_by a C + cond b (0 + 1) 0
  more b e = count_by-append a C (x ∷ []) ∙ ap (λ t. count_by a C + cond t (0 + 1) 0) e

  was : (k : ℕ) → k < length ps → (c : ChangeParts) × (slice_get (C ++ x ∷ []) (get_or ps k 0) ≡ Some c) × (same_actor c.actor a ≡ true) × (c.seq ≡ k + 1)
  was k small = let w = o.each k small in (w.0, at_left C x (get_or ps k 0) (slice_get_within C (get_or ps k 0) w.0 w.1) ∙ w.1, w.2, w.3)

  by : (b : Bool) → same_actor x.actor a ≡ b → ArePlacesBy (C ++ x ∷ []) a (ps ++ cond b (length C ∷ []) [])
  by false e =
      let one : count_by a (C ++ x ∷ []) ≡ count_by a C + 0 = more false e in
      let all : length ps ≡ count_by a C = o.all in
      subst (ArePlacesBy (C ++ x ∷ []) a) (sym (append-nil ps)) (record { all = omega arith; each = was })
  by true e =
      let one : count_by a (C ++ x ∷ []) ≡ count_by a C + (0 + 1) = more true e in
      let all : length ps ≡ count_by a C = o.all in
      let long : length (ps ++ length C ∷ []) ≡ length ps + 1 = length-append ps (length C ∷ []) in
      let number : x.seq ≡ count_by a C + 1 = subst (λ b. x.seq ≡ count_by b C + 1) (same_actor-same x.actor a e) (next_seq C x s f) in
      record {
        all = omega arith;
        each = λ k small. elim (truth (nat_lt k (length ps))) [
          | inl t ↦
              let low : k < length ps = grind (arith, nat_tests) in
              let w = was k low in
              (w.0, ap (slice_get (C ++ x ∷ [])) (get_or-append ps (length C ∷ []) 0 k low) ∙ w.1, w.2, w.3)
          | inr g ↦
              let end : k ≡ length ps = grind (arith, nat_tests) in
              let here : get_or (ps ++ length C ∷ []) k 0 ≡ length C = ap (λ m. get_or (ps ++ length C ∷ []) m 0) end ∙ get_or-append_seam ps (length C) [] 0 in
              (x, ap (slice_get (C ++ x ∷ [])) here ∙ at_last C x, e, omega arith)
        ];
      }

-- the actor's changes, where the last one isn't listed
pub unlisted : (C : List ChangeParts) (b : ByActor) (a : Actor) (c : ChangeParts) → Sound C → IsByActor C b → b.listed < length C → c ≡ get_or C b.listed c
    → ArePlacesBy C a (listed_places C b a ++ cond (same_actor c.actor a) (b.listed ∷ []) [])
unlisted C b a c s w small at =
    let n = b.listed in
    let near : length C ≤ b.listed + 1 = w.near in
    let split : take n C ++ c ∷ [] ≡ C = ap (λ x. take n C ++ x ∷ []) at ∙ sym (take_more C n c small) ∙ take_all (n + 1) C near in
    let whole = subst Sound (sym split) s in
    let count : length (take n C) ≡ n = length-take-le n C w.within in
    subst (λ m. ArePlacesBy C a (listed_places C b a ++ cond (same_actor c.actor a) (m ∷ []) [])) count
    (subst (λ D. ArePlacesBy D a (listed_places C b a ++ cond (same_actor c.actor a) (length (take n C) ∷ []) [])) split
    (ArePlacesBy-push (take n C) c a (listed_places C b a) (Sound-prefix (take n C) (c ∷ []) whole) (Fits-at (take n C) c [] whole) (w.own a)))

pub own_within : (C : List ChangeParts) (a : Actor) (ps : List ℕ) (k p : ℕ) → ArePlacesBy C a ps → k < length ps → p ≡ get_or ps k 0 → p < length C
own_within C a ps k p o small e = let w = o.each k small in subst (λ q. q < length C) (sym e) (slice_get_within C (get_or ps k 0) w.0 w.1)

-- each of the actor's changes is at its number
pub own_there : (C : List ChangeParts) (a : Actor) (ps : List ℕ) (d : ChangeParts) → Sound C → ArePlacesBy C a ps → In d C → same_actor d.actor a ≡ true
    → (k : ℕ) × (k < length ps) × (slice_get C (get_or ps k 0) ≡ Some d)
own_there C a ps d s o i mine =
    let low : 1 ≤ d.seq = (seqs_run C s).low d i in
    let who : d.actor ≡ a = same_actor-same d.actor a mine in
    let high : d.seq ≤ count_by a C = subst (λ b. d.seq ≤ count_by b C) who ((seqs_run C s).bounded d i) in
    let all : length ps ≡ count_by a C = o.all in
    let small : d.seq - 1 < length ps = omega arith in
    let w = o.each (d.seq - 1) small in
    let number : w.0.seq ≡ d.seq - 1 + 1 = w.3 in
    let same : w.0.seq ≡ d.seq = omega arith in
    let one : same_actor w.0.actor d.actor ≡ true = subst (λ x. same_actor w.0.actor x ≡ true) (sym who) w.2 in
    (d.seq - 1, small, w.1 ∙ ap Some (own_one C w.0 d s (In-slice_get C (get_or ps (d.seq - 1) 0) w.0 w.1) i one same))

-- ---- the change that has an operation

-- of an actor's places, the one of a change that has the operation is within these bounds
pub Within : List ChangeParts → List ℕ → OpId → ℕ → ℕ → Type 0
Within C ps id low high = (k : ℕ) (d : ChangeParts) → k < length ps → slice_get C (get_or ps k 0) ≡ Some d → HasOp id d → (low ≤ k) × (k ≤ high)

pub Within-first : (C : List ChangeParts) (ps : List ℕ) (id : OpId) → Within C ps id 0 (length ps)
unfolding Within
Within-first C ps id k d small at h = (omega arith, omega arith)

-- an actor's change ends before its later ones start
pub ends_before : (C : List ChangeParts) (a : Actor) (ps : List ℕ) (k l : ℕ) (c d : ChangeParts) → Sound C → ArePlacesBy C a ps → k < l → l < length ps
    → slice_get C (get_or ps k 0) ≡ Some c → slice_get C (get_or ps l 0) ≡ Some d → c.start + op_count c ≤ d.start
unfolding InTurn
ends_before C a ps k l c d s o less small at there =
    let v = o.each k (omega arith) in
    let w = o.each l small in
    let e : Some v.0 ≡ Some c = sym v.1 ∙ at in
    let g : Some w.0 ≡ Some d = sym w.1 ∙ there in
    let first : v.0 ≡ c = cc in
    let last : w.0 ≡ d = cc in
    let one : v.0.seq ≡ k + 1 = v.3 in
    let two : w.0.seq ≡ l + 1 = w.3 in
    let same : same_actor v.0.actor w.0.actor ≡ true = rw (same_actor-same v.0.actor a v.2, same_actor-same w.0.actor a w.2) (same_actor-itself a) in
    let turn = in_turn C s v.0 w.0 (In-slice_get C (get_or ps k 0) v.0 v.1) (In-slice_get C (get_or ps l 0) w.0 w.1) same (omega arith) in
    subst (λ (x : ChangeParts). c.start + op_count c ≤ x.start) last (subst (λ (x : ChangeParts). x.start + op_count x ≤ w.0.start) first turn)

pub same_at : (C : List ChangeParts) (ps : List ℕ) (k l : ℕ) (c d : ChangeParts) → k ≡ l → slice_get C (get_or ps k 0) ≡ Some c → slice_get C (get_or ps l 0) ≡ Some d → c ≡ d
same_at C ps k l c d e f g = let h : Some c ≡ Some d = sym f ∙ ap (λ m. slice_get C (get_or ps m 0)) e ∙ g in cc

-- the change in the middle has ended before the operation
pub Within-up : (C : List ChangeParts) (a : Actor) (ps : List ℕ) (id : OpId) (low high mid p : ℕ) → Sound C → ArePlacesBy C a ps → mid < length ps
    → p ≡ get_or ps mid 0 → get_or (ends_of C) p 0 ≤ id.counter → Within C ps id low high → Within C ps id (mid + 1) high
unfolding Within
Within-up C a ps id low high mid p s o small e past w k d less there h =
    let v = o.each mid small in
    let c : ChangeParts = v.0 in
    let at : slice_get C (get_or ps mid 0) ≡ Some c = v.1 in
    let end : get_or (ends_of C) p 0 ≡ c.start + op_count c = end_at C p c (ap (slice_get C) e ∙ at) in
    let ended : c.start + op_count c ≤ id.counter = omega arith in
    let up : k ≤ high = (w k d less there h).1 in
    let out : id.counter < d.start + op_count d = h.high in
    elim (truth (nat_lt mid k)) [
      | inl t ↦ (grind (arith, nat_tests), up)
      | inr f ↦ elim (truth (nat_lt k mid)) [
        | inl t ↦
            let turn : d.start + op_count d ≤ c.start = ends_before C a ps k mid d c s o (grind (arith, nat_tests)) small there at in
            absurd (omega arith)
        | inr g ↦
            let one : d ≡ c = same_at C ps k mid d c (grind (arith, nat_tests)) there at in
            let out : id.counter < c.start + op_count c = subst (λ (x : ChangeParts). id.counter < x.start + op_count x) one h.high in
            absurd (omega arith)
      ]
    ]

-- it hasn't
pub Within-down : (C : List ChangeParts) (a : Actor) (ps : List ℕ) (id : OpId) (low high mid p : ℕ) → Sound C → ArePlacesBy C a ps → mid < length ps
    → p ≡ get_or ps mid 0 → id.counter < get_or (ends_of C) p 0 → Within C ps id low high → Within C ps id low mid
unfolding Within
Within-down C a ps id low high mid p s o small e more w k d less there h =
    let v = o.each mid small in
    let c : ChangeParts = v.0 in
    let at : slice_get C (get_or ps mid 0) ≡ Some c = v.1 in
    let end : get_or (ends_of C) p 0 ≡ c.start + op_count c = end_at C p c (ap (slice_get C) e ∙ at) in
    elim (truth (nat_lt mid k)) [
      | inl t ↦
          let turn : c.start + op_count c ≤ d.start = ends_before C a ps mid k c d s o (grind (arith, nat_tests)) less at there in
          let begun : d.start ≤ id.counter = h.low in
          absurd (omega arith)
      | inr f ↦ ((w k d less there h).0, grind (arith, nat_tests))
    ]

-- only one change has it
pub maker-at : (C : List ChangeParts) (id : OpId) (p : ℕ) (c : ChangeParts) → Sound C → slice_get C p ≡ Some c → HasOp id c → IsMaker C id (Some p)
unfolding InTurn
maker-at C id p c s at h = (slice_get_within C p c at, λ d i k. at ∙ ap Some (one d i k)) where
  one : (d : ChangeParts) → In d C → HasOp id d → c ≡ d
  one d i k =
      let there : In c C = In-slice_get C p c at in
      let mine : same_actor c.actor d.actor ≡ true = rw (same_actor-same c.actor id.actor h.actor, same_actor-same d.actor id.actor k.actor) (same_actor-itself id.actor) in
      let low : c.start ≤ id.counter = h.low in
      let high : id.counter < c.start + op_count c = h.high in
      let from : d.start ≤ id.counter = k.low in
      let to : id.counter < d.start + op_count d = k.high in
      elim (truth (nat_lt c.seq d.seq)) [
        | inl t ↦ let turn = in_turn C s c d there i mine (grind (arith, nat_tests)) in absurd (omega arith)
        | inr f ↦ elim (truth (nat_lt d.seq c.seq)) [
          | inl t ↦ let turn = in_turn C s d c i there (same_actor-flip c.actor d.actor mine) (grind (arith, nat_tests)) in absurd (omega arith)
          | inr g ↦ own_one C c d s there i mine (grind (arith, nat_tests))
        ]
      ]

-- where the bounds meet, it is there or nowhere
pub maker-some : (C : List ChangeParts) (ps : List ℕ) (id : OpId) (n : ℕ) → Sound C → ArePlacesBy C id.actor ps → Within C ps id n n → n < length ps → IsMaker C id (Some (get_or ps n 0))
unfolding Within
maker-some C ps id n s o w small =
    let here = o.each n small in (
      slice_get_within C (get_or ps n 0) here.0 here.1,
      λ d i h.
          let at = own_there C id.actor ps d s o i h.actor in
          let bounds = w at.0 d at.1 at.2 h in
          let low : n ≤ at.0 = bounds.0 in
          let high : at.0 ≤ n = bounds.1 in
          let one : n ≡ at.0 = omega arith in
          ap (λ m. slice_get C (get_or ps m 0)) one ∙ at.2,
    )

pub maker-none : (C : List ChangeParts) (ps : List ℕ) (id : OpId) (n : ℕ) → Sound C → ArePlacesBy C id.actor ps → Within C ps id n n → length ps ≤ n → IsMaker C id None
unfolding Within
maker-none C ps id n s o w past d i h =
    let at = own_there C id.actor ps d s o i h.actor in
    let low : n ≤ at.0 = (w at.0 d at.1 at.2 h).0 in
    let small : at.0 < length ps = at.1 in
    absurd (omega arith)
