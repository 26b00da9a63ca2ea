-- Changes that wait keep each hash once; what they want.
use Rattle.tp_graph.proofs.Common.{◌≡◌, ℕ, suc, zero, ◌+◌, ◌<◌, List, [], ◌∷◌, ◌++◌, length, Bool, true, false, if◌then◌else◌, refl, arith, length-append, remove, neither_left, neither_right, neither, Hash, same_hash, ChangeParts, hash_of, has, most_waiting, HashesOnce, IsWaiting, ◌⊎◌, ◌↔◌, inl, inr, ◌||◌, cond, sym, subst, In, IsRising, put, truth, or_cases, or_left, or_right, put-In, In-put_other, In-put, put-rises, hash_cmp, hash_total, hash_exact, among, is_wanted, IsMissing, gather, gather_all}
use Rattle.std.proofs.lemmas.List.Edits.{length-remove}
use Rattle.tp_history.proofs.MarksLaws.{HashesOnce-push}
use Rattle.tp_history.proofs.HeadsLaws.{among-In, In-among}

-- one more, whose hash isn't there
pub IsWaiting-push : (W : List ChangeParts) (c : ChangeParts) → IsWaiting W → length W < most_waiting → has W (hash_of c) ≡ false → IsWaiting (W ++ c ∷ [])
IsWaiting-push W c w small new =
    let more : length (W ++ c ∷ []) ≡ length W + 1 = length-append W (c ∷ []) in
    record { few = omega arith; once = HashesOnce-push W c w.once new }

has-remove : (W : List ChangeParts) (i : ℕ) (h : Hash) → has W h ≡ false → has (remove W i) h ≡ false
has-remove [] zero h e = refl
has-remove [] (suc i) h e = refl
has-remove (c ∷ W) zero h e = neither_right (same_hash (hash_of c) h) (has W h) e
has-remove (c ∷ W) (suc i) h e =
    neither (same_hash (hash_of c) h) (has (remove W i) h)
    (neither_left (same_hash (hash_of c) h) (has W h) e)
    (has-remove W i h (neither_right (same_hash (hash_of c) h) (has W h) e))

HashesOnce-remove : (W : List ChangeParts) (i : ℕ) → HashesOnce W → HashesOnce (remove W i)
HashesOnce-remove [] zero o = tt
HashesOnce-remove [] (suc i) o = tt
HashesOnce-remove (c ∷ W) zero o = o.1
HashesOnce-remove (c ∷ W) (suc i) o = (has-remove W i (hash_of c) o.0, HashesOnce-remove W i o.1)

-- one less
pub IsWaiting-remove : (W : List ChangeParts) (i : ℕ) → i < length W → IsWaiting W → IsWaiting (remove W i)
IsWaiting-remove W i small w =
    let less : length (remove W i) + 1 ≡ length W = length-remove W i small in
    let few = w.few in
    record { few = omega arith; once = HashesOnce-remove W i w.once }

-- one more, where there was memory
pub IsWaiting-held : (W D : List ChangeParts) (c : ChangeParts) (b : Bool)
    → IsWaiting W → length W < most_waiting → has W (hash_of c) ≡ false → D ≡ (if b then W ++ c ∷ [] else W) → IsWaiting D
IsWaiting-held W D c true w small new e = rw e (IsWaiting-push W c w small new)
IsWaiting-held W D c false w small new e = rw e w

-- ---- what is gathered

gather-rises : (C W : List ChangeParts) (ds F : List Hash) → IsRising hash_cmp F → IsRising hash_cmp (gather C W ds F)
gather-rises C W [] F r = r
gather-rises C W (d ∷ ds) F r =
    gather-rises C W ds (cond (has C d || has W d) F (put hash_cmp d F))
    (elim (has C d || has W d) as (λ b. IsRising hash_cmp (cond b F (put hash_cmp d F))) [ true ↦ r | false ↦ put-rises hash_cmp hash_total d F r ])

gather_all-rises : (C W D : List ChangeParts) (F : List Hash) → IsRising hash_cmp F → IsRising hash_cmp (gather_all C W D F)
gather_all-rises C W [] F r = r
gather_all-rises C W (c ∷ D) F r = gather_all-rises C W D (gather C W c.deps F) (gather-rises C W c.deps F r)

-- what is wanted of the hashes and lacks
record Lacks (C W : List ChangeParts) (h : Hash) : Type 0 where
  applied : has C h ≡ false
  waiting : has W h ≡ false

gather-In : (C W : List ChangeParts) (h : Hash) (ds F : List Hash) → In h (gather C W ds F) → (In h ds × Lacks C W h) ⊎ In h F
gather-In C W h [] F i = inr i
gather-In C W h (d ∷ ds) F i =
    elim (gather-In C W h ds (cond (has C d || has W d) F (put hash_cmp d F)) i) [
      | inl w ↦ inl (inr w.0, w.1)
      | inr j ↦ one (truth (has C d || has W d)) j
    ] where
      one : (((has C d || has W d) ≡ true) ⊎ ((has C d || has W d) ≡ false)) → In h (cond (has C d || has W d) F (put hash_cmp d F)) → (In h (d ∷ ds) × Lacks C W h) ⊎ In h F
      one (inl t) j = inr (subst (λ b. In h (cond b F (put hash_cmp d F))) t j)
      one (inr f) j =
          elim (put-In hash_cmp h d F (subst (λ b. In h (cond b F (put hash_cmp d F))) f j)) [
            | inl e ↦ inl (
              inl e,
              record {
                applied = subst (λ g. has C g ≡ false) (sym e) (neither_left (has C d) (has W d) f);
                waiting = subst (λ g. has W g ≡ false) (sym e) (neither_right (has C d) (has W d) f);
              },
            )
            | inr k ↦ inr k
          ]

In-gather_old : (C W : List ChangeParts) (h : Hash) (ds F : List Hash) → In h F → In h (gather C W ds F)
In-gather_old C W h [] F i = i
In-gather_old C W h (d ∷ ds) F i =
    In-gather_old C W h ds (cond (has C d || has W d) F (put hash_cmp d F))
    (elim (has C d || has W d) as (λ b. In h (cond b F (put hash_cmp d F))) [ true ↦ i | false ↦ In-put_other hash_cmp h d F i ])

In-gather : (C W : List ChangeParts) (h : Hash) (ds F : List Hash) → In h ds → Lacks C W h → In h (gather C W ds F)
In-gather C W h [] F i l = absurd i
In-gather C W h (d ∷ ds) F (inl e) l =
    let no : (has C d || has W d) ≡ false = neither (has C d) (has W d) (subst (λ g. has C g ≡ false) e l.applied) (subst (λ g. has W g ≡ false) e l.waiting) in
    In-gather_old C W h ds (cond (has C d || has W d) F (put hash_cmp d F))
    (subst (λ b. In h (cond b F (put hash_cmp d F))) (sym no) (subst (λ g. In g (put hash_cmp d F)) (sym e) (In-put hash_cmp hash_exact d F)))
In-gather C W h (d ∷ ds) F (inr i) l = In-gather C W h ds (cond (has C d || has W d) F (put hash_cmp d F)) i l

gather_all-In : (C W D : List ChangeParts) (h : Hash) (F : List Hash) → In h (gather_all C W D F) → ((is_wanted D h ≡ true) × Lacks C W h) ⊎ In h F
gather_all-In C W [] h F i = inr i
gather_all-In C W (c ∷ D) h F i =
    elim (gather_all-In C W D h (gather C W c.deps F) i) [
      | inl w ↦ inl (or_right (among c.deps h) (is_wanted D h) w.0, w.1)
      | inr j ↦ elim (gather-In C W h c.deps F j) [
        | inl w ↦ inl (or_left (among c.deps h) (is_wanted D h) (In-among c.deps h w.0), w.1)
        | inr k ↦ inr k
      ]
    ]

In-gather_all_old : (C W D : List ChangeParts) (h : Hash) (F : List Hash) → In h F → In h (gather_all C W D F)
In-gather_all_old C W [] h F i = i
In-gather_all_old C W (c ∷ D) h F i = In-gather_all_old C W D h (gather C W c.deps F) (In-gather_old C W h c.deps F i)

In-gather_all : (C W D : List ChangeParts) (h : Hash) (F : List Hash) → is_wanted D h ≡ true → Lacks C W h → In h (gather_all C W D F)
In-gather_all C W [] h F e l = cc
In-gather_all C W (c ∷ D) h F e l =
    elim (or_cases (among c.deps h) (is_wanted D h) e) [
      | inl a ↦ In-gather_all_old C W D h (gather C W c.deps F) (In-gather C W h c.deps F (among-In c.deps h a) l)
      | inr w ↦ In-gather_all C W D h (gather C W c.deps F) w l
    ]

pub missing-rises : (C W : List ChangeParts) → IsRising hash_cmp (gather_all C W W [])
missing-rises C W = gather_all-rises C W W [] tt

pub missing-In : (C W : List ChangeParts) (h : Hash) → In h (gather_all C W W []) ↔ IsMissing C W h
missing-In C W h = (
  λ i. elim (gather_all-In C W W h [] i) [
    | inl w ↦ record { wanted = w.0; not_applied = w.1.applied; not_waiting = w.1.waiting }
    | inr n ↦ absurd n
  ],
  λ m. In-gather_all C W W h [] m.wanted (record { applied = m.not_applied; waiting = m.not_waiting }),
)
