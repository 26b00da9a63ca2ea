-- Laws of counts and counters in sound lists.
use Rattle.tp_history.proofs.Common.{◌≡◌, ℕ, ◌+◌, ◌<◌, ◌≤◌, ◌==◌, ◌⊎◌, inl, inr, List, [], ◌∷◌, ◌++◌, Bool, true, false, cond, nat_lt, Some, None, refl, sym, ap, ◌∙◌, subst, arith, length, nat_le, nat_tests, In, AllIn, truth, never, same_test, In-left, In-right, In-append, In-push, In-last, In-split, Actor, OpId, same_actor, same_actor-same, same_actor-itself, same_actor-flip, ChangeParts, hash_of, ops_of, inserts, is_inserted, refers, next_counter, is_inserted-more, refers-same, inserts-more, le_both, next_counter-same, BadSeq, BadStart, BadReference, past, count_by, clashes, Sound, Fits, HashesOnce}
use Rattle.tp_history.specs.Fit.{defect_after}
use Rattle.tp_history.proofs.NamedLaws.{In-has}
use Rattle.tp_history.proofs.PastLaws.{past-In}
use Rattle.tp_history.proofs.SoundLaws.{sound-induct, sound_pasts}
use Rattle.tp_history.proofs.MarksLaws.{hashes_once}
use Rattle.tp_history.proofs.ClashLaws.{clash_of, In-clashes}

-- ---- counts depend on the set alone

pub count_by-append : (a : Actor) (xs ys : List ChangeParts) → count_by a (xs ++ ys) ≡ count_by a xs + count_by a ys
count_by-append a [] ys = omega arith
count_by-append a (x ∷ xs) ys =
    let h = count_by-append a xs ys in
    elim (same_actor x.actor a) as (λ b. cond b (count_by a (xs ++ ys) + 1) (count_by a (xs ++ ys)) ≡ cond b (count_by a xs + 1) (count_by a xs) + count_by a ys) [
      | true ↦ omega arith
      | false ↦ h
    ]

-- a member of a joined list that isn't the one between
beside : (z x : ChangeParts) (A B : List ChangeParts) → In z (A ++ x ∷ B) → (z ≡ x → ⊥) → In z (A ++ B)
beside z x A B i apart =
    elim (In-append z A (x ∷ B) i) [
      | inl l ↦ In-left z A B l
      | inr r ↦ elim r [ inl e ↦ absurd (apart e) | inr k ↦ In-right z A B k ]
    ]

pub count_by-le : (a : Actor) (xs ys : List ChangeParts) → HashesOnce xs → AllIn xs ys → count_by a xs ≤ count_by a ys
count_by-le a [] ys o more = omega arith
count_by-le a (x ∷ xs) ys o more =
    let w = In-split x ys (more x (inl refl)) in
    let A = w.0 in
    let B = w.1 in
    let rest : AllIn xs (A ++ B) =
    λ z i. beside z x A B (subst (λ l. In z l) w.2 (more z (inr i))) (λ e. never (In-has xs z (hash_of x) i (ap hash_of e)) o.0) in
    let fewer : count_by a xs ≤ count_by a (A ++ B) = count_by-le a xs (A ++ B) o.1 rest in
    let joined : count_by a (A ++ B) ≡ count_by a A + count_by a B = count_by-append a A B in
    let whole : count_by a ys ≡ count_by a A + count_by a (x ∷ B) = ap (count_by a) w.2 ∙ count_by-append a A (x ∷ B) in
    one (same_actor x.actor a) (count_by a xs) (count_by a B) (count_by a A) (count_by a ys) (omega arith) whole where
      one : (b : Bool) (n m k t : ℕ) → n ≤ k + m → t ≡ k + cond b (m + 1) m → cond b (n + 1) n ≤ t
      one true n m k t h e = omega arith
      one false n m k t h e = omega arith

pub count_by-same : (a : Actor) (xs ys : List ChangeParts) → HashesOnce xs → HashesOnce ys → AllIn xs ys → AllIn ys xs → count_by a xs ≡ count_by a ys
count_by-same a xs ys o q f g = le_both (count_by a xs) (count_by a ys) (count_by-le a xs ys o f) (count_by-le a ys xs q g)

-- ---- inserts depend on the set alone

pub is_inserted-same : (C D : List ChangeParts) → AllIn C D → AllIn D C → (id : OpId) → is_inserted (inserts C) id ≡ is_inserted (inserts D) id
is_inserted-same C D f g id =
    same_test (is_inserted (inserts C) id) (is_inserted (inserts D) id)
    (is_inserted-more (inserts C) (inserts D) id (inserts-more C D f))
    (is_inserted-more (inserts D) (inserts C) id (inserts-more D C g))

-- the faults of numbers and references depend on the past as a set
pub defect_after-same : (P Q : List ChangeParts) (c : ChangeParts) → HashesOnce P → HashesOnce Q → AllIn P Q → AllIn Q P → defect_after P c ≡ defect_after Q c
unfolding defect_after
defect_after-same P Q c o q f g =
    let refs : refers (inserts P) (ops_of c) ≡ refers (inserts Q) (ops_of c) = refers-same (inserts P) (inserts Q) (ops_of c) (is_inserted-same P Q f g) in
    ap (λ n. cond (c.seq == n + 1) (cond (c.start == next_counter P) (cond (refers (inserts P) (ops_of c)) None (Some BadReference)) (Some BadStart)) (Some BadSeq)) (count_by-same c.actor P Q o q f g)
    ∙ ap (λ n. cond (c.seq == count_by c.actor Q + 1) (cond (c.start == n) (cond (refers (inserts P) (ops_of c)) None (Some BadReference)) (Some BadStart)) (Some BadSeq)) (next_counter-same P Q f g)
    ∙ ap (λ b. cond (c.seq == count_by c.actor Q + 1) (cond (c.start == next_counter Q) (cond b None (Some BadReference)) (Some BadStart)) (Some BadSeq)) refs

-- ---- sequence numbers

-- the sequence numbers of an actor are those from 1 to the number of its changes
pub record SeqsRun (C : List ChangeParts) : Type 0 where
  pub low : (c : ChangeParts) → In c C → 1 ≤ c.seq
  pub bounded : (c : ChangeParts) → In c C → c.seq ≤ count_by c.actor C
  pub there : (a : Actor) (s : ℕ) → 1 ≤ s → s ≤ count_by a C → (c : ChangeParts) × In c C × (same_actor c.actor a ≡ true) × (c.seq ≡ s)

-- the past of a change that fits has all of its actor's changes
own_count_by : (C : List ChangeParts) (c : ChangeParts) → Sound C → SeqsRun C → Fits C c → count_by c.actor (past C c.deps) ≡ count_by c.actor C
own_count_by C c s r f =
    let k : ℕ = count_by c.actor (past C c.deps) in
    let n : ℕ = count_by c.actor C in
    let fewer : k ≤ n = count_by-le c.actor (past C c.deps) C (hashes_once (past C c.deps) (sound_pasts C s c.deps)) (past-In C c.deps) in
    elim (le_or_lt n k) [
      | inl h ↦ le_both k n fewer h
      | inr h ↦
          let low : 1 ≤ k + 1 = omega arith in
          let high : k + 1 ≤ n = omega arith in
          let w = r.there c.actor (k + 1) low high in
          never (In-clashes C c w.0 w.1 w.2 (w.3 ∙ sym f.seq)) f.free
    ] where
      le_or_lt : (n k : ℕ) → (n ≤ k) ⊎ (k < n)
      le_or_lt n k = elim (truth (nat_lt k n)) [ inl t ↦ inr (grind (arith, nat_tests)) | inr f ↦ inl (grind (arith, nat_tests)) ]

seqs_step : (C : List ChangeParts) (x : ChangeParts) → Sound C → SeqsRun C → Fits C x → SeqsRun (C ++ x ∷ [])
seqs_step C x s r f =
    let own : count_by x.actor (past C x.deps) ≡ count_by x.actor C = own_count_by C x s r f in
    let number : x.seq ≡ count_by x.actor C + 1 = f.seq ∙ ap (λ n. n + 1) own in
    record {
      low = λ c i. elim (In-push c C x i) [ inl j ↦ r.low c j | inr e ↦ let one : 1 ≤ x.seq = omega arith in subst (λ (y : ChangeParts). 1 ≤ y.seq) (sym e) one ];
      bounded = λ c i. elim (In-push c C x i) [
        | inl j ↦
            let h = r.bounded c j in
            let e = count_by-append c.actor C (x ∷ []) in
            omega arith
        | inr e ↦
            let whole : count_by x.actor (C ++ x ∷ []) ≡ count_by x.actor C + 1 = count_by-append x.actor C (x ∷ []) ∙ ap (λ b. count_by x.actor C + cond b (0 + 1) 0) (same_actor-itself x.actor) ∙ ap (λ n. count_by x.actor C + n) one in
            let h : x.seq ≤ count_by x.actor (C ++ x ∷ []) = omega arith in
            subst (λ (y : ChangeParts). y.seq ≤ count_by y.actor (C ++ x ∷ [])) (sym e) h
      ];
      there = λ a n low high. found a n low (subst (λ k. n ≤ k) (count_by-append a C (x ∷ [])) high) (truth (same_actor x.actor a)) number;
    } where
      one : 0 + 1 ≡ 1
      one = omega arith

      found : (a : Actor) (n : ℕ) → 1 ≤ n → n ≤ count_by a C + count_by a (x ∷ []) → ((same_actor x.actor a ≡ true) ⊎ (same_actor x.actor a ≡ false))
          → x.seq ≡ count_by x.actor C + 1 → (c : ChangeParts) × In c (C ++ x ∷ []) × (same_actor c.actor a ≡ true) × (c.seq ≡ n)
      found a n low high (inr e) number =
          let same : n ≤ count_by a C = grind (arith, high, e) in
          let w = r.there a n low same in (w.0, In-left w.0 C (x ∷ []) w.1, w.2, w.3)
      found a n low high (inl e) number =
          let who : x.actor ≡ a = same_actor-same x.actor a e in
          let numbered : x.seq ≡ count_by a C + 1 = subst (λ b. x.seq ≡ count_by b C + 1) who number in
          let within : n ≤ count_by a C + 1 = grind (arith, high, e) in
          elim (truth (nat_lt (count_by a C) n)) [
            | inl t ↦ (x, In-last x C, e, let last : x.seq ≡ n = grind (arith, nat_tests) in last)
            | inr t ↦
                let same : n ≤ count_by a C = grind (arith, nat_tests) in
                let w = r.there a n low same in (w.0, In-left w.0 C (x ∷ []) w.1, w.2, w.3)
          ]

pub seqs_run : (C : List ChangeParts) → Sound C → SeqsRun C
seqs_run = sound-induct SeqsRun
    (record { low = λ c i. absurd i; bounded = λ c i. absurd i; there = λ a s low high. absurd (omega arith) })
    seqs_step

pub own_count : (C : List ChangeParts) (c : ChangeParts) → Sound C → Fits C c → count_by c.actor (past C c.deps) ≡ count_by c.actor C
own_count C c s f = own_count_by C c s (seqs_run C s) f

-- two changes of one actor with one number are one
OneNumber : List ChangeParts → Type 0
OneNumber C = (c d : ChangeParts) → In c C → In d C → same_actor c.actor d.actor ≡ true → c.seq ≡ d.seq → c ≡ d

one_step : (C : List ChangeParts) (x : ChangeParts) → Sound C → OneNumber C → Fits C x → OneNumber (C ++ x ∷ [])
unfolding OneNumber
one_step C x s p f c d i j e n = by (In-push c C x i) (In-push d C x j) where
  by : (In c C ⊎ (c ≡ x)) → (In d C ⊎ (d ≡ x)) → c ≡ d
  by (inl k) (inl l) = p c d k l e n
  by (inl k) (inr z) = never (In-clashes C x c k (subst (λ (y : ChangeParts). same_actor c.actor y.actor ≡ true) z e) (n ∙ ap (λ (y : ChangeParts). y.seq) z)) f.free
  by (inr z) (inl l) = never (In-clashes C x d l (same_actor-flip x.actor d.actor (subst (λ (y : ChangeParts). same_actor y.actor d.actor ≡ true) z e)) (sym n ∙ ap (λ (y : ChangeParts). y.seq) z)) f.free
  by (inr z) (inr w) = z ∙ sym w

pub own_one : (C : List ChangeParts) (c d : ChangeParts) → Sound C → In c C → In d C → same_actor c.actor d.actor ≡ true → c.seq ≡ d.seq → c ≡ d
unfolding OneNumber
own_one C c d s = sound-induct OneNumber (λ c d i j e n. absurd i) one_step C s c d

-- each of the actor's changes is in the past of a change that fits
pub own_past : (C : List ChangeParts) (c d : ChangeParts) → Sound C → Fits C c → In d C → same_actor d.actor c.actor ≡ true → In d (past C c.deps)
own_past C c d s f i e =
    let low : 1 ≤ d.seq = (seqs_run C s).low d i in
    let who : d.actor ≡ c.actor = same_actor-same d.actor c.actor e in
    let bound : d.seq ≤ count_by c.actor C = subst (λ a. d.seq ≤ count_by a C) who ((seqs_run C s).bounded d i) in
    let high : d.seq ≤ count_by c.actor (past C c.deps) = subst (λ n. d.seq ≤ n) (sym (own_count C c s f)) bound in
    let w = (seqs_run (past C c.deps) (sound_pasts C s c.deps)).there c.actor d.seq low high in
    let one : same_actor w.0.actor d.actor ≡ true = rw (same_actor-same w.0.actor c.actor w.2, who) (same_actor-itself c.actor) in
    subst (λ x. In x (past C c.deps)) (own_one C w.0 d s (past-In C c.deps w.0 w.1) i one w.3) w.1

-- a change that fits has its actor's next sequence number
pub next_seq : (C : List ChangeParts) (c : ChangeParts) → Sound C → Fits C c → c.seq ≡ count_by c.actor C + 1
next_seq C c s f = f.seq ∙ ap (λ n. n + 1) (own_count C c s f)

-- ---- where an actor has reached a sequence number

-- a change clashes exactly where its actor has reached its sequence number
pub clashes-reached : (C : List ChangeParts) (c : ChangeParts) → Sound C → 1 ≤ c.seq → nat_le c.seq (count_by c.actor C) ≡ clashes C c
clashes-reached C c s low =
    same_test (nat_le c.seq (count_by c.actor C)) (clashes C c)
    (λ t.
    let high : c.seq ≤ count_by c.actor C = grind (arith, nat_tests) in
    let w = (seqs_run C s).there c.actor c.seq low high in
    In-clashes C c w.0 w.1 w.2 w.3)
    (λ t.
    let w = clash_of C c t in
    let bound : w.0.seq ≤ count_by w.0.actor C = (seqs_run C s).bounded w.0 w.1 in
    let one : count_by w.0.actor C ≡ count_by c.actor C = ap (λ a. count_by a C) (same_actor-same w.0.actor c.actor w.2) in
    let same : w.0.seq ≡ c.seq = w.3 in
    let high : c.seq ≤ count_by c.actor C = omega arith in
    grind (arith, nat_tests))

pub count_by-length : (a : Actor) (C : List ChangeParts) → count_by a C ≤ length C
count_by-length a [] = omega arith
count_by-length a (c ∷ C) =
    let h = count_by-length a C in
    elim (same_actor c.actor a) as (λ b. cond b (count_by a C + 1) (count_by a C) ≤ length (c ∷ C)) [ true ↦ omega arith | false ↦ omega arith ]
