-- The list of what waits: going over it, and taking one out.
use Rattle.tp_receive.proofs.Common.{◌≡◌, ℕ, suc, zero, ◌+◌, ◌<◌, inl, inr, List, [], ◌∷◌, ◌++◌, length, Bool, true, Some, take, refl, sym, ap, ◌∙◌, subst, get_or, In-append, take_more, slice_get, remove, Hash, ChangeParts, GraphError, cause, AllWait, lacks_deps, intake, NextWaits, IsEarliest}

-- a list around one of its elements
pub record IsSplit {X : Type 0} (xs : List X) (i : ℕ) (x : X) : Type 0 where
  pub before : List X
  pub beyond : List X
  pub prefix : take i xs ≡ before
  pub whole : xs ≡ before ++ x ∷ beyond
  pub rest : remove xs i ≡ before ++ beyond

pub split_at : {X : Type 0} (xs : List X) (i : ℕ) (x : X) → slice_get xs i ≡ Some x → IsSplit xs i x
split_at [] i x e = cc
split_at (y ∷ xs) zero x e = let same : y ≡ x = cc in record { before = []; beyond = xs; prefix = refl; whole = ap (λ z. z ∷ xs) same; rest = refl }
split_at (y ∷ xs) (suc i) x e =
    let w = split_at xs i x e in
    record { before = y ∷ w.before; beyond = w.beyond; prefix = ap (λ l. y ∷ l) w.prefix; whole = ap (λ l. y ∷ l) w.whole; rest = ap (λ l. y ∷ l) w.rest }

-- The earliest waiting change that lacks nothing has its turn.
pub next_waits : {S : Type 0} (k : S) (C W : List ChangeParts) (P : List (ChangeParts × Bool)) (t : List Hash) (r : List (Hash × GraphError)) (i : ℕ) (c : ChangeParts)
    → IsEarliest C W i → slice_get W i ≡ Some c → NextWaits (intake k C W P t r) c (intake k C (remove W i) P t r)
next_waits k C W P t r i c e get =
    let w = split_at W i c get in
    record {
      before = w.before;
      beyond = w.beyond;
      waits = w.whole;
      earliest = subst (AllWait C) w.prefix e.before;
      ready = e.ready c get;
      without = ap (λ (l : List ChangeParts). intake k C l P t r) w.rest;
    }

pub AllWait-push : (C W : List ChangeParts) (c : ChangeParts) → lacks_deps (cause C c) ≡ true → AllWait C W → AllWait C (W ++ c ∷ [])
AllWait-push C W c h all d i = elim (In-append d W (c ∷ []) i) [ inl j ↦ all d j | inr j ↦ elim j [ inl e ↦ rw e h | inr n ↦ absurd n ] ]

-- one more of them
pub AllWait-more : (C W : List ChangeParts) (i : ℕ) (d : ChangeParts) → i < length W → d ≡ get_or W i d → lacks_deps (cause C d) ≡ true → AllWait C (take i W) → AllWait C (take (i + 1) W)
AllWait-more C W i d small is h all =
    subst (AllWait C) (sym (take_more W i d small ∙ ap (λ (x : ChangeParts). take i W ++ x ∷ []) (sym is))) (AllWait-push C (take i W) d h all)
