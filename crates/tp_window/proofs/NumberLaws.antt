-- Heads under numbers, as the first are forgotten and others come.
use Rattle.std.proofs.Common.{◌≡◌, ◌⊎◌, ◌∙◌, ℕ, ◌+◌, ◌<◌, ◌≤◌, List, [], ◌∷◌, ◌++◌, length, suc, zero, inl, inr, refl, ap, sym, subst, vec_len, arith, Option, Some, None}
use Rattle.std.specs.Prelude.{Vec}
use Rattle.std.specs.List.{remove, slice_get}
use Rattle.std.specs.declared.alloc.Global.{Global}
use Rattle.tp_opid.specs.declared.hash.Hash.{Hash}
use Rattle.tp_window.specs.Numbers.{HadHeads, next_number}
use Rattle.tp_window.specs.declared.memory.Memory.{Memory}

get-removed : {X : Type 0} (xs : List X) (i : ℕ) → slice_get (remove xs 0) i ≡ slice_get xs (suc i)
get-removed [] i = refl
get-removed (x ∷ xs) i = refl

get-pushed : {X : Type 0} (xs : List X) (x : X) → slice_get (xs ++ x ∷ []) (length xs) ≡ Some x
get-pushed [] x = refl
get-pushed (y ∷ ys) x = get-pushed ys x

get-stays : {X : Type 0} (xs : List X) (x : X) (i : ℕ) (y : X) → slice_get xs i ≡ Some y → slice_get (xs ++ x ∷ []) i ≡ Some y
get-stays [] x i y h = cc
get-stays (z ∷ zs) x zero y h = h
get-stays (z ∷ zs) x (suc i) y h = get-stays zs x i y h

get-came : {X : Type 0} (xs : List X) (x : X) (i : ℕ) (y : X) → slice_get (xs ++ x ∷ []) i ≡ Some y → (slice_get xs i ≡ Some y) ⊎ ((i ≡ length xs) × (y ≡ x))
get-came [] x zero y h = inr (refl, cc)
get-came [] x (suc i) y h = cc
get-came (z ∷ zs) x zero y h = inl h
get-came (z ∷ zs) x (suc i) y h = elim (get-came zs x i y h) [ inl there ↦ inl there | inr last ↦ inr (ap suc last.0, last.1) ]

-- ---- the first is forgotten

pub forgot_before : (m m' : Memory) (n : ℕ) (H : List Hash) → m'.first ≡ m.first + 1 → m'.kept.items ≡ remove m.kept.items 0 → HadHeads m' n H → HadHeads m n H
forgot_before m m' n H next removed has = record {
  at = suc has.at;
  numbered = omega (arith, has.numbered);
  heads = has.heads;
  here = sym (get-removed m.kept.items has.at) ∙ subst (λ (xs : List (Vec Hash Global)). slice_get xs has.at ≡ Some has.heads) removed has.here;
  same = has.same;
}

stays_at : (m m' : Memory) (n : ℕ) (H : List Hash) (at : ℕ) (heads : Vec Hash Global) → m'.first ≡ m.first + 1 → m'.kept.items ≡ remove m.kept.items 0
    → 0 < at → n ≡ m.first + at → slice_get m.kept.items at ≡ Some heads → heads.items ≡ H → HadHeads m' n H
stays_at m m' n H zero heads next removed later numbered here same = absurd (omega arith)
stays_at m m' n H (suc at) heads next removed later numbered here same = record {
  at = at;
  numbered = omega (arith, numbered, next);
  heads = heads;
  here = subst (λ (xs : List (Vec Hash Global)). slice_get xs at ≡ Some heads) (sym removed) (get-removed m.kept.items at ∙ here);
  same = same;
}

pub forgot_stays : (m m' : Memory) (n most : ℕ) (H : List Hash) → m'.first ≡ m.first + 1 → m'.kept.items ≡ remove m.kept.items 0 → most ≤ vec_len m.kept
    → HadHeads m n H → next_number m < n + most → HadHeads m' n H
forgot_stays m m' n most H next removed many has late =
    stays_at m m' n H has.at has.heads next removed (omega (arith, has.numbered)) has.numbered has.here has.same

-- ---- others come

module _ (m m' : Memory) (heads : Vec Hash Global) where
  pub came : (next : ℕ) → m'.first ≡ m.first → m'.kept.items ≡ m.kept.items ++ heads ∷ [] → next_number m ≡ next → HadHeads m' next heads.items
  came next same pushed is = record {
    at = length m.kept.items;
    numbered = let counts = m.kept.ok in omega (arith, is, counts, same);
    heads = heads;
    here = subst (λ (xs : List (Vec Hash Global)). slice_get xs (length m.kept.items) ≡ Some heads) (sym pushed) (get-pushed m.kept.items heads);
    same = refl;
  }

  pub came_stays : (n : ℕ) (H : List Hash) → m'.first ≡ m.first → m'.kept.items ≡ m.kept.items ++ heads ∷ [] → HadHeads m n H → HadHeads m' n H
  came_stays n H same pushed has = record {
    at = has.at;
    numbered = has.numbered ∙ ap (λ f. f + has.at) (sym same);
    heads = has.heads;
    here = subst (λ (xs : List (Vec Hash Global)). slice_get xs has.at ≡ Some has.heads) (sym pushed) (get-stays m.kept.items heads has.at has.heads has.here);
    same = has.same;
  }

  pub came_before : (n : ℕ) (H : List Hash) → m'.first ≡ m.first → m'.kept.items ≡ m.kept.items ++ heads ∷ [] → HadHeads m' n H
      → HadHeads m n H ⊎ ((n ≡ next_number m) × (H ≡ heads.items))
  came_before n H same pushed has =
      elim (get-came m.kept.items heads has.at has.heads (subst (λ (xs : List (Vec Hash Global)). slice_get xs has.at ≡ Some has.heads) pushed has.here)) [
        | inl there ↦ inl (record { at = has.at; numbered = has.numbered ∙ ap (λ f. f + has.at) same; heads = has.heads; here = there; same = has.same })
        | inr last ↦ inr (let counts = m.kept.ok in omega (arith, has.numbered, last.0, same, counts), sym has.same ∙ ap (λ (v : Vec Hash Global). v.items) last.1)
      ]

-- the same are kept
pub same_kept : (m m' : Memory) (n : ℕ) (H : List Hash) → m'.first ≡ m.first → m'.kept.items ≡ m.kept.items → HadHeads m n H → HadHeads m' n H
same_kept m m' n H same kept has = record {
  at = has.at;
  numbered = has.numbered ∙ ap (λ f. f + has.at) (sym same);
  heads = has.heads;
  here = subst (λ (xs : List (Vec Hash Global)). slice_get xs has.at ≡ Some has.heads) (sym kept) has.here;
  same = has.same;
}

-- ---- one heads for a number

one_place : (m : Memory) (n : ℕ) (H K : List Hash) (a b : ℕ) (v w : Vec Hash Global) → n ≡ m.first + a → n ≡ m.first + b
    → slice_get m.kept.items a ≡ Some v → slice_get m.kept.items b ≡ Some w → v.items ≡ H → w.items ≡ K → H ≡ K
one_place m n H K a b v w at other here there same alike =
    let one : a ≡ b = omega arith in
    let both : slice_get m.kept.items b ≡ Some v = subst (λ i. slice_get m.kept.items i ≡ Some v) one here in
    let equal : v ≡ w = cc in
    sym same ∙ ap (λ (x : Vec Hash Global). x.items) equal ∙ alike

pub one_heads : (m : Memory) (n : ℕ) (H K : List Hash) → HadHeads m n H → HadHeads m n K → H ≡ K
one_heads m n H K has other = one_place m n H K has.at other.at has.heads other.heads has.numbered other.numbered has.here other.here has.same other.same
