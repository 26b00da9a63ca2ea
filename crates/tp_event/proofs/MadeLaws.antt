-- The hashes of the changes that were made, among those that are noted.
use Rattle.tp_event.proofs.Common.{◌≡◌, inl, inr, List, [], ◌∷◌, ◌++◌, Bool, true, false, cond, Option, Result, Ok, Err, OnOk, is_err, refl, sym, ap, ◌∙◌, subst, never, not_true, or_cases, Hash, same_hash, ChangeParts, hash_of, has, has-append, HashesAreNoted, MayBeMade, MadeState, is_noted}
use Rattle.tp_opid.proofs.Orders.{same_hash-itself, same_hash-same}

-- a change whose hash is noted is made
pub noted_push : (made : List ChangeParts) (noted : List Hash) (c : ChangeParts) → HashesAreNoted made noted → is_noted noted (hash_of c) ≡ true → HashesAreNoted (made ++ c ∷ []) noted
noted_push made noted c are is h there =
    elim (or_cases (has made h) (has (c ∷ []) h) (sym (has-append made (c ∷ []) h) ∙ there)) [
      | inl old ↦ are h old
      | inr last ↦
          elim (or_cases (same_hash (hash_of c) h) false last) [
            | inl same ↦ subst (λ (x : Hash). is_noted noted x ≡ true) (same_hash-same (hash_of c) h same) is
            | inr none ↦ cc
          ]
    ]

-- ---- a hash more is noted

either_way : (b : Bool) → cond b true true ≡ true
either_way true = refl
either_way false = refl

pub noted_more : (made : List ChangeParts) (old new : List Hash) (k : Hash) → HashesAreNoted made old → ((h : Hash) → is_noted new h ≡ cond (same_hash k h) true (is_noted old h)) → HashesAreNoted made new
noted_more made old new k are more h there = more h ∙ ap (λ b. cond (same_hash k h) true b) (are h there) ∙ either_way (same_hash k h)

pub noted_now : (old new : List Hash) (k : Hash) → ((h : Hash) → is_noted new h ≡ cond (same_hash k h) true (is_noted old h)) → is_noted new k ≡ true
noted_now old new k more = more k ∙ ap (λ b. cond b true (is_noted old k)) (same_hash-itself k)

-- ---- a hash is noted no more

pub noted_fewer : (made : List ChangeParts) (old new : List Hash) (k : Hash) → HashesAreNoted made old → has made k ≡ false → ((h : Hash) → same_hash k h ≡ false → is_noted new h ≡ is_noted old h) → HashesAreNoted made new
noted_fewer made old new k are lacks others h there =
    others h (not_true (same_hash k h) (λ same. never (subst (λ (x : Hash). has made x ≡ true) (sym (same_hash-same k h same)) there) lacks)) ∙ are h there

-- ---- room

-- once a change was prepared for, it may be made
pub ready_for : {E : Type 0} (r : Result (Unit {0}) E) (b : Bool) (made later : MadeState) (change : Option ChangeParts) → b ≡ is_err r → b ≡ false → OnOk r (MayBeMade made change) → later ≡ made → MayBeMade later change
ready_for (Ok x) b made later change e f h same = subst (λ (m : MadeState). MayBeMade m change) (sym same) h
ready_for (Err x) b made later change e f h same = absurd cc
