-- The past in a sound list is what the dependencies lead to.
use Rattle.tp_history.proofs.Common.{◌≡◌, ℕ, suc, zero, inl, inr, List, [], ◌∷◌, true, refl, sym, ◌∙◌, subst, In, AllIn, or_cases, Hash, ChangeParts, hash_of, names, has_all, is_needed, HashesApart, past, Chain, InPast}
use Rattle.tp_history.proofs.NamedLaws.{names-In, has-In, has_all-In, is_needed-In}
use Rattle.tp_history.proofs.PastLaws.{past-In, past-named, with_reached-In}
use Rattle.tp_history.proofs.SoundLaws.{IsClosed, DepsFirst, past-closed}

pub Chain-more : (C D : List ChangeParts) → AllIn C D → (n : ℕ) (h g : Hash) → Chain C n h g → Chain D n h g
Chain-more C D more zero h g k = k
Chain-more C D more (suc n) h g k = (k.0, more k.0 k.1, k.2, k.3, k.4, Chain-more C D more n k.3 g k.5)

-- a way goes on by one dependency
pub Chain-on : (C : List ChangeParts) (n : ℕ) (h : Hash) (c : ChangeParts) (d : Hash) → Chain C n h (hash_of c) → In c C → In d c.deps → Chain C (suc n) h d
Chain-on C zero h c d k i j = (c, i, sym k, d, j, refl)
Chain-on C (suc n) h c d k i j = (k.0, k.1, k.2, k.3, k.4, Chain-on C n k.3 c d k.5 i j)

pub InPast-more : (C D : List ChangeParts) (H : List Hash) (c : ChangeParts) → AllIn C D → InPast C H c → InPast D H c
InPast-more C D H c more p = (more c p.0, p.1, p.2, (p.3.0, Chain-more C D more p.3.0 p.1 (hash_of c) p.3.1))

-- what the past holds is reached
pub InPast-from_past : (C : List ChangeParts) (H : List Hash) (c : ChangeParts) → In c (past C H) → InPast C H c
InPast-from_past [] H c i = absurd i
InPast-from_past (x ∷ C) H c i =
    let more : AllIn C (x ∷ C) = λ d j. inr j in
    elim (with_reached-In H x c (past C H) i) [
      | inl w ↦
          subst (λ y. InPast (x ∷ C) H y) (sym w.0)
          (elim (or_cases (names H x) (is_needed (past C H) x) w.1) [
            | inl n ↦ (inl refl, hash_of x, names-In H x n, (0, refl))
            | inr n ↦
                let d = is_needed-In (past C H) x n in
                let p = InPast-more C (x ∷ C) H d.0 more (InPast-from_past C H d.0 d.1) in
                (inl refl, p.1, p.2, (suc p.3.0, Chain-on (x ∷ C) p.3.0 p.1 d.0 (hash_of x) p.3.1 p.0 d.2))
          ])
      | inr k ↦ InPast-more C (x ∷ C) H c more (InPast-from_past C H c k)
    ]

-- what is reached from a hash whose changes are in the past is there too
pub chain_stays : (C : List ChangeParts) (H : List Hash) → DepsFirst C → (n : ℕ) (h : Hash) (c : ChangeParts)
    → ((x : ChangeParts) → In x C → hash_of x ≡ h → In x (past C H)) → Chain C n h (hash_of c) → In c C → In c (past C H)
chain_stays C H o zero h c f k i = f c i (sym k)
chain_stays C H o (suc n) h c f k i =
    chain_stays C H o n k.3 c (λ x j e. past-closed C H o x k.0 (f k.0 k.1 k.2) j (subst (λ g. In g k.0.deps) (sym e) k.4)) k.5 i

-- what is reached is in the past
pub past-from_InPast : (C : List ChangeParts) (H : List Hash) → DepsFirst C → (c : ChangeParts) → InPast C H c → In c (past C H)
past-from_InPast C H o c p =
    chain_stays C H o p.3.0 p.1 c (λ x j e. past-named C H x j (subst (λ g. In g H) (sym e) p.2)) p.3.1 p.0

-- ---- a past is the same in any list that holds it

-- a way among the changes of C is one among those of D, where D has all that is on it
chain_moves : (C D : List ChangeParts) (H : List Hash) → DepsFirst C → ((x : ChangeParts) → In x (past C H) → In x D) → (n : ℕ) (h : Hash) (c : ChangeParts)
    → ((x : ChangeParts) → In x C → hash_of x ≡ h → In x (past C H)) → Chain C n h (hash_of c) → Chain D n h (hash_of c)
chain_moves C D H o held zero h c f k = k
chain_moves C D H o held (suc n) h c f k =
    let at = f k.0 k.1 k.2 in (
      k.0,
      held k.0 at,
      k.2,
      k.3,
      k.4,
      chain_moves C D H o held n k.3 c (λ x j e. past-closed C H o x k.0 at j (subst (λ g. In g k.0.deps) (sym e) k.4)) k.5,
    )

pub past-held : (C D : List ChangeParts) (H : List Hash) → DepsFirst C → DepsFirst D → AllIn (past C H) D → AllIn (past C H) (past D H)
past-held C D H o q held c i =
    let p = InPast-from_past C H c i in
    past-from_InPast D H q c (
      held c i,
      p.1,
      p.2,
      (p.3.0, chain_moves C D H o held p.3.0 p.1 c (λ x j e. past-named C H x j (subst (λ g. In g H) (sym e) p.2)) p.3.1),
    )

-- and the other way round, where C has the hashes, and the dependencies of its changes
chain_back : (C D : List ChangeParts) (H : List Hash) → DepsFirst C → IsClosed C → HashesApart D → ((x : ChangeParts) → In x (past C H) → In x D)
    → (n : ℕ) (h g : Hash) → (x : ChangeParts) → In x (past C H) → hash_of x ≡ h → Chain D n h g → (y : ChangeParts) × In y (past C H) × (hash_of y ≡ g)
chain_back C D H o closed apart held zero h g x i e k = (x, i, e ∙ k)
chain_back C D H o closed apart held (suc n) h g x i e k =
    let same : k.0 ≡ x = apart k.0 x k.1 (held x i) (k.2 ∙ sym e) in
    let dep : In k.3 x.deps = subst (λ (z : ChangeParts). In k.3 z.deps) same k.4 in
    let next = has-In C k.3 (has_all-In C x.deps (closed x (past-In C H x i)) k.3 dep) in
    chain_back C D H o closed apart held n k.3 g next.0
    (past-closed C H o next.0 x i next.1 (subst (λ z. In z x.deps) (sym next.2) dep)) next.2 k.5

pub past-held_back : (C D : List ChangeParts) (H : List Hash)
    → DepsFirst C → IsClosed C → HashesApart D → has_all C H ≡ true → AllIn (past C H) D → AllIn (past D H) (past C H)
past-held_back C D H o closed apart all held c i =
    let p = InPast-from_past D H c i in
    let x = has-In C p.1 (has_all-In C H all p.1 p.2) in
    let at = past-named C H x.0 x.1 (subst (λ g. In g H) (sym x.2) p.2) in
    let y = chain_back C D H o closed apart held p.3.0 p.1 (hash_of c) x.0 at x.2 p.3.1 in
    subst (λ z. In z (past C H)) (apart y.0 c (held y.0 y.1) p.0 y.2) y.1
