-- A cause other than a missing dependency stays whatever enters.
use Rattle.tp_receive.proofs.Common.{◌≡◌, ◌==◌, inl, inr, List, [], ◌∷◌, ◌++◌, length, Bool, true, false, ◌||◌, Option, Some, None, IsSome, refl, sym, ap, subst, append_assoc, append-nil, AllIn, ChangeParts, hash_of, GraphError, has, has_all, most_changes, Sound, truth, has-left, In-left, Sound-push, Fits-from_cause, EntersAfter, lacks_deps, is_refusal, Known, or_full, clashes, has_all-more, enters, defect_after, or_clash, Fits, not_among}
use Rattle.tp_history.specs.Past.{past}
use Rattle.tp_history.specs.Fit.{defect, cause}
use Rattle.tp_history.proofs.PastLaws.{past-push_other}

-- a refusal is a cause
pub IsSome-refusal : (o : Option GraphError) → is_refusal o ≡ true → IsSome o
IsSome-refusal None h = cc
IsSome-refusal (Some e) h = refl

pub IsSome-lacks : (o : Option GraphError) → lacks_deps o ≡ true → IsSome o
IsSome-lacks None h = cc
IsSome-lacks (Some e) h = refl

-- what is there is known
pub cause-known : (C : List ChangeParts) (c : ChangeParts) → has C (hash_of c) ≡ true → cause C c ≡ Some Known
unfolding cause defect
cause-known C c h = rw h refl

clashes-left : (C D : List ChangeParts) (c : ChangeParts) → clashes C c ≡ true → clashes (C ++ D) c ≡ true
clashes-left [] D c h = cc
clashes-left (d ∷ C) D c h = step _ (clashes C c) (clashes (C ++ D) c) h (clashes-left C D c) where
  step : (a b e : Bool) → (a || b) ≡ true → (b ≡ true → e ≡ true) → (a || e) ≡ true
  step true b e h f = refl
  step false b e h f = f h

clash_more : (o : Option GraphError) (a b : Bool) → (a ≡ true → b ≡ true) → is_refusal (or_clash o a) ≡ true → is_refusal (or_clash o b) ≡ true
clash_more (Some e) a b f h = h
clash_more None true b f h = rw (f refl) refl
clash_more None false b f h = cc

full_more : (o : Option GraphError) (b : Bool) → is_refusal o ≡ true → is_refusal (or_full o b) ≡ true
full_more None b h = cc
full_more (Some e) b h = h

full_less : (o : Option GraphError) → is_refusal (or_full o false) ≡ true → is_refusal o ≡ true
full_less None h = h
full_less (Some e) h = h

defect-more : (C : List ChangeParts) (x c : ChangeParts) → Fits C x → is_refusal (defect C c) ≡ true → is_refusal (defect (C ++ x ∷ []) c) ≡ true
unfolding defect
defect-more C x c f h =
    elim (truth (has C (hash_of c))) [
      | inl t ↦ rw (has-left C (x ∷ []) (hash_of c) t) refl
      | inr new ↦ elim (truth (has (C ++ x ∷ []) (hash_of c))) [
        | inl t ↦ rw t refl
        | inr still ↦ elim (truth (has_all C c.deps)) [
          | inl all ↦
              let more : AllIn C (C ++ x ∷ []) = λ d i. In-left d C (x ∷ []) i in
              let g = rw (new, all) at h in
              rw (still, has_all-more C (C ++ x ∷ []) c.deps more all, past-push_other C c.deps x (not_among C c.deps x all f.new))
              (clash_more (defect_after (past C c.deps) c) (clashes C c) (clashes (C ++ x ∷ []) c) (clashes-left C (x ∷ []) c) g)
          | inr lacks ↦ let g = rw (new, lacks) at h in cc
        ]
      ]
    ]

-- a change that is refused stays refused where another enters
pub refused-push : (C : List ChangeParts) (x c : ChangeParts) → cause C x ≡ None → is_refusal (cause C c) ≡ true → is_refusal (cause (C ++ x ∷ []) c) ≡ true
unfolding cause
refused-push C x c none h =
    let g = rw ((enters C x none).1) at h in
    full_more (defect (C ++ x ∷ []) c) (length (C ++ x ∷ []) == most_changes) (defect-more C x c (Fits-from_cause C x none) (full_less (defect C c) g))

-- a change that is refused stays refused where others enter
pub refused-stays : (C new : List ChangeParts) (c : ChangeParts) → EntersAfter C new → is_refusal (cause C c) ≡ true → is_refusal (cause (C ++ new) c) ≡ true
refused-stays C [] c e h = subst (λ l. is_refusal (cause l c) ≡ true) (sym (append-nil C)) h
refused-stays C (x ∷ new) c e h =
    subst (λ l. is_refusal (cause l c) ≡ true) (append_assoc C (x ∷ []) new) (refused-stays (C ++ x ∷ []) new c e.1 (refused-push C x c e.0 h))

-- what is there is refused as known
pub refused-known : (C : List ChangeParts) (c : ChangeParts) → has C (hash_of c) ≡ true → is_refusal (cause C c) ≡ true
refused-known C c h = ap is_refusal (cause-known C c h)

-- what enters in sequence after a sound list is sound with it
pub Sound-entered : (C new : List ChangeParts) → Sound C → EntersAfter C new → Sound (C ++ new)
Sound-entered C [] s e = subst Sound (sym (append-nil C)) s
Sound-entered C (x ∷ new) s e = subst Sound (append_assoc C (x ∷ []) new) (Sound-entered (C ++ x ∷ []) new (Sound-push C x s (Fits-from_cause C x e.0)) e.1)

pub EntersAfter-append : (B C D : List ChangeParts) → EntersAfter B C → EntersAfter (B ++ C) D → EntersAfter B (C ++ D)
EntersAfter-append B [] D s t = subst (λ l. EntersAfter l D) (append-nil B) t
EntersAfter-append B (c ∷ C) D s t =
    (s.0, EntersAfter-append (B ++ c ∷ []) C D s.1 (subst (λ l. EntersAfter l D) (sym (append_assoc B (c ∷ []) C)) t))
