-- The order of chains: total, transitive, and where a chain with one more identifier at its end is in it.
use Rattle.std.proofs.Common.{◌≡◌, ◌⊎◌, inl, inr, List, [], ◌∷◌, ◌++◌, refl, sym, ap, ◌∙◌, subst}
use Rattle.tp_opid.specs.declared.op_id.OpId.{OpId}
use Rattle.tp_opid.specs.Order.{Below}
use Rattle.tp_opid.proofs.Orders.{Below-irreflexive, Below-trans, Below-asym, Below-cases}
use Rattle.tp_rga.specs.Order.{Precedes}

-- each identifier of the chain is below x
abbrev pub AllBelow : OpId → List OpId → Type 0
AllBelow x [] = Unit {0}
AllBelow x (y ∷ d) = Below y x × AllBelow x d

-- no chain precedes itself
pub Precedes-irreflexive : (c : List OpId) → Precedes c c → ⊥
Precedes-irreflexive [] h = h
Precedes-irreflexive (a ∷ c) (inl h) = Below-irreflexive a h
Precedes-irreflexive (a ∷ c) (inr h) = Precedes-irreflexive c h.1

-- the order of chains is transitive
pub Precedes-trans : (c d e : List OpId) → Precedes c d → Precedes d e → Precedes c e
Precedes-trans c d [] h k = k
Precedes-trans c [] (z ∷ e) h k = absurd h
Precedes-trans [] (y ∷ d) (z ∷ e) h k = tt
Precedes-trans (x ∷ c) (y ∷ d) (z ∷ e) (inl h) (inl k) = inl (Below-trans z y x k h)
Precedes-trans (x ∷ c) (y ∷ d) (z ∷ e) (inl h) (inr k) = inl (subst (λ w. Below w x) k.0 h)
Precedes-trans (x ∷ c) (y ∷ d) (z ∷ e) (inr h) (inl k) = inl (subst (λ w. Below z w) (sym h.0) k)
Precedes-trans (x ∷ c) (y ∷ d) (z ∷ e) (inr h) (inr k) = inr (h.0 ∙ k.0, Precedes-trans c d e h.1 k.1)

-- of two chains not both precede the other
pub Precedes-asym : (c d : List OpId) → Precedes c d → Precedes d c → ⊥
Precedes-asym c d h k = Precedes-irreflexive c (Precedes-trans c d c h k)

-- of two chains one precedes the other, or they are one
pub Precedes-cases : (c d : List OpId) → Precedes c d ⊎ ((c ≡ d) ⊎ Precedes d c)
Precedes-cases [] [] = inr (inl refl)
Precedes-cases [] (y ∷ d) = inl tt
Precedes-cases (x ∷ c) [] = inr (inr tt)
Precedes-cases (x ∷ c) (y ∷ d) =
    elim (Below-cases x y) as (λ _. Precedes (x ∷ c) (y ∷ d) ⊎ ((x ∷ c ≡ y ∷ d) ⊎ Precedes (y ∷ d) (x ∷ c))) [
      | inl h ↦ inr (inr (inl h))
      | inr (inl e) ↦
          elim (Precedes-cases c d) as (λ _. Precedes (x ∷ c) (y ∷ d) ⊎ ((x ∷ c ≡ y ∷ d) ⊎ Precedes (y ∷ d) (x ∷ c))) [
            | inl h ↦ inl (inr (e, h))
            | inr (inl k) ↦ inr (inl cc)
            | inr (inr h) ↦ inr (inr (inr (sym e, h)))
          ]
      | inr (inr h) ↦ inl (inl h)
    ]

-- what precedes a chain precedes each longer one
pub Precedes-longer : (c d e : List OpId) → Precedes c d → Precedes c (d ++ e)
Precedes-longer c [] e h = absurd h
Precedes-longer [] (y ∷ d) e h = tt
Precedes-longer (x ∷ c) (y ∷ d) e (inl h) = inl h
Precedes-longer (x ∷ c) (y ∷ d) e (inr h) = inr (h.0, Precedes-longer c d e h.1)

-- a proper beginning precedes
pub Precedes-prefix : (c : List OpId) (b : OpId) (d : List OpId) → Precedes c (c ++ b ∷ d)
Precedes-prefix [] b d = tt
Precedes-prefix (a ∷ c) b d = inr (refl, Precedes-prefix c b d)

-- a chain precedes none of its beginnings
pub Precedes-beginning : (c d : List OpId) → Precedes (c ++ d) c → ⊥
Precedes-beginning [] d h = h
Precedes-beginning (a ∷ c) d (inl h) = Below-irreflexive a h
Precedes-beginning (a ∷ c) d (inr h) = Precedes-beginning c d h.1

-- where c precedes a chain whose identifiers are all below x, c with x at its end precedes it too
pub stop_last : (c d : List OpId) (x : OpId) → AllBelow x d → Precedes c d → Precedes (c ++ x ∷ []) d
stop_last c [] x b h = absurd h
stop_last [] (y ∷ d) x b h = inl b.0
stop_last (a ∷ c) (y ∷ d) x b (inl h) = inl h
stop_last (a ∷ c) (y ∷ d) x b (inr h) = inr (h.0, stop_last c d x b.1 h.1)

-- Where all of c is below x, and c precedes d, and each beginning of d that c precedes ends in an identifier above x,
-- then d precedes c with x at its end.
pub passed_first : (c d : List OpId) (x : OpId) → AllBelow x c → Precedes c d → ((q : List OpId) (b : OpId) (t : List OpId) → d ≡ q ++ b ∷ t → Precedes c (q ++ b ∷ []) → Below x b) → Precedes d (c ++ x ∷ [])
passed_first c [] x s h above = absurd h
passed_first [] (y ∷ d) x s h above = inl (above [] y d refl tt)
passed_first (a ∷ c) (y ∷ d) x s (inl h) above = absurd (Below-asym a x s.0 (Below-trans x y a (above [] y d refl (inl h)) h))
passed_first (a ∷ c) (y ∷ d) x s (inr h) above =
    inr (sym h.0, passed_first c d x s.1 h.1 (λ q b t e p. above (y ∷ q) b t (ap (λ z. y ∷ z) e) (inr (h.0, p))))
