-- Laws of clashes: two changes with one actor and one sequence number.
use Rattle.tp_history.proofs.Common.{◌≡◌, ◌==◌, inl, inr, List, [], ◌∷◌, true, ◌&&◌, refl, subst, false, ◌++◌, Bool, ◌||◌, eqb-true, eq-eqb, In, AllIn, or_cases, both_left, both_right, or_left, or_right, both, never, not_true, same_actor, ChangeParts, clashes}

pub clash_of : (D : List ChangeParts) (c : ChangeParts) → clashes D c ≡ true → (d : ChangeParts) × In d D × (same_actor d.actor c.actor ≡ true) × (d.seq ≡ c.seq)
clash_of [] c e = cc
clash_of (x ∷ D) c e =
    elim (or_cases (same_actor x.actor c.actor && (x.seq == c.seq)) (clashes D c) e) [
      | inl t ↦ (x, inl refl, both_left (same_actor x.actor c.actor) (x.seq == c.seq) t, eqb-true x.seq c.seq (both_right (same_actor x.actor c.actor) (x.seq == c.seq) t))
      | inr r ↦ let w = clash_of D c r in (w.0, inr w.1, w.2, w.3)
    ]

pub In-clashes : (C : List ChangeParts) (c d : ChangeParts) → In d C → same_actor d.actor c.actor ≡ true → d.seq ≡ c.seq → clashes C c ≡ true
In-clashes [] c d i s e = absurd i
In-clashes (x ∷ C) c d (inl z) s e =
    or_left (same_actor x.actor c.actor && (x.seq == c.seq)) (clashes C c)
    (both (same_actor x.actor c.actor) (x.seq == c.seq) (subst (λ (y : ChangeParts). same_actor y.actor c.actor ≡ true) z s) (eq-eqb x.seq c.seq (subst (λ (y : ChangeParts). y.seq ≡ c.seq) z e)))
In-clashes (x ∷ C) c d (inr i) s e = or_right (same_actor x.actor c.actor && (x.seq == c.seq)) (clashes C c) (In-clashes C c d i s e)

-- fewer changes clash no more
pub clashes-fewer : (C D : List ChangeParts) (c : ChangeParts) → AllIn C D → clashes D c ≡ false → clashes C c ≡ false
clashes-fewer C D c more e = not_true (clashes C c) (λ t. let w = clash_of C c t in never (In-clashes D c w.0 (more w.0 w.1) w.2 w.3) e)

pub clashes-append : (C D : List ChangeParts) (c : ChangeParts) → clashes C c ≡ false → clashes D c ≡ false → clashes (C ++ D) c ≡ false
clashes-append [] D c e f = f
clashes-append (x ∷ C) D c e f = step (same_actor x.actor c.actor && (x.seq == c.seq)) (clashes C c) (clashes (C ++ D) c) e (clashes-append C D c) f where
  step : (a b d : Bool) → (a || b) ≡ false → (b ≡ false → clashes D c ≡ false → d ≡ false) → clashes D c ≡ false → (a || d) ≡ false
  step true b d e g f = cc
  step false b d e g f = g e f
