-- Laws of heads.
use Rattle.tp_history.proofs.Common.{◌≡◌, ◌⊎◌, inl, inr, List, [], ◌∷◌, ◌++◌, true, false, ◌||◌, cond, refl, sym, ap, ◌∙◌, subst, ℕ, ◌+◌, ◌<◌, ◌≤◌, length, not, take, drop, get_or, arith, add-one, append_assoc, drop-cons, In, AllIn, IsRising, IsBelowAll, put, put_at, truth, never, not_true, or_cases, or_left, or_right, neither_left, neither_right, neither, In-left, In-right, In-append, In-last, put-In, In-put_other, In-put, rising-In, In-rising, put-rises, rising-rises, one_list, Hash, hash_cmp, same_hash, hash_total, hash_exact, same_hash-same, same_hash-itself, ChangeParts, hash_of, among, names, has_all, is_needed, past, with_reached, not_needed, heads, without, Sound, Fits, insert, Less, Equal, Greater, take_more, take_all, drop_all, take-append-drop}
use Rattle.tp_history.proofs.NamedLaws.{In-names, In-has, In-has_all, is_needed-In, In-is_needed, is_needed-append, is_needed-more}
use Rattle.tp_history.proofs.PastLaws.{kept}
use Rattle.tp_history.proofs.SoundLaws.{not_among, deps_there, DepsFirst}
use Rattle.std.specs.List.{filter}
use Rattle.std.specs.declared.cmp.Ordering.{Ordering}

-- ---- members

pub not_needed-In : (D C : List ChangeParts) (h : Hash) → In h (not_needed D C) → (c : ChangeParts) × In c C × (hash_of c ≡ h) × (is_needed D c ≡ false)
not_needed-In D [] h i = absurd i
not_needed-In D (c ∷ C) h i =
    elim (is_needed D c) as (λ b. is_needed D c ≡ b → In h (cond b (not_needed D C) (hash_of c ∷ not_needed D C)) → (x : ChangeParts) × In x (c ∷ C) × (hash_of x ≡ h) × (is_needed D x ≡ false)) [
      | true ↦ λ e j. let w = not_needed-In D C h j in (w.0, inr w.1, w.2, w.3)
      | false ↦ λ e j. elim j [
        | inl s ↦ (c, inl refl, sym s, e)
        | inr k ↦ let w = not_needed-In D C h k in (w.0, inr w.1, w.2, w.3)
      ]
    ] refl i

pub In-not_needed : (D C : List ChangeParts) (c : ChangeParts) → In c C → is_needed D c ≡ false → In (hash_of c) (not_needed D C)
In-not_needed D [] c i e = absurd i
In-not_needed D (x ∷ C) c (inl s) e =
    let f : is_needed D x ≡ false = subst (λ y. is_needed D y ≡ false) s e in
    rw f (inl (ap hash_of s))
In-not_needed D (x ∷ C) c (inr i) e =
    elim (is_needed D x) as (λ b. In (hash_of c) (cond b (not_needed D C) (hash_of x ∷ not_needed D C))) [
      | true ↦ In-not_needed D C c i e
      | false ↦ inr (In-not_needed D C c i e)
    ]

-- a head is the hash of a change on which none depends
pub heads-In : (C : List ChangeParts) (h : Hash) → In h (heads C) → (c : ChangeParts) × In c C × (hash_of c ≡ h) × (is_needed C c ≡ false)
heads-In C h i = not_needed-In C C h (rising-In hash_cmp h (not_needed C C) i)

pub In-heads : (C : List ChangeParts) (c : ChangeParts) → In c C → is_needed C c ≡ false → In (hash_of c) (heads C)
In-heads C c i e = In-rising hash_cmp hash_exact (hash_of c) (not_needed C C) (In-not_needed C C c i e)

pub heads_rise : (C : List ChangeParts) → IsRising hash_cmp (heads C)
heads_rise C = rising-rises hash_cmp hash_total (not_needed C C)

-- the heads are hashes of the list
pub has_all-heads : (C : List ChangeParts) → has_all C (heads C) ≡ true
has_all-heads C = In-has_all C (heads C) (λ h i. let w = heads-In C h i in In-has C w.0 h w.1 w.2)

-- heads depend on the changes alone, in whatever order they are
pub heads-same : (C D : List ChangeParts) → AllIn C D → AllIn D C → heads C ≡ heads D
heads-same C D f g =
    one_list hash_cmp hash_total (heads C) (heads D) (heads_rise C) (heads_rise D) (half C D f g) (half D C g f) where
      half : (A B : List ChangeParts) → AllIn A B → AllIn B A → AllIn (heads A) (heads B)
      half A B there back h i =
          let w = heads-In A h i in
          let e : is_needed B w.0 ≡ false = not_true (is_needed B w.0) (λ t. never (is_needed-more B A w.0 back t) w.3) in
          subst (λ g. In g (heads B)) w.2 (In-heads B w.0 (there w.0 w.1) e)

-- ---- without

pub among-In : (H : List Hash) (h : Hash) → among H h ≡ true → In h H
among-In [] h e = cc
among-In (g ∷ H) h e =
    elim (or_cases (same_hash g h) (among H h) e) [ inl s ↦ inl (sym (same_hash-same g h s)) | inr r ↦ inr (among-In H h r) ]

pub In-among : (H : List Hash) (h : Hash) → In h H → among H h ≡ true
In-among [] h i = absurd i
In-among (g ∷ H) h (inl e) = or_left (same_hash g h) (among H h) (rw (← e) (same_hash-itself h))
In-among (g ∷ H) h (inr i) = or_right (same_hash g h) (among H h) (In-among H h i)

pub without-In : (D H : List Hash) (h : Hash) → In h (without D H) → In h H × (among D h ≡ false)
without-In D [] h i = absurd i
without-In D (g ∷ H) h i =
    elim (among D g) as (λ b. among D g ≡ b → In h (cond b (without D H) (g ∷ without D H)) → In h (g ∷ H) × (among D h ≡ false)) [
      | true ↦ λ e j. let w = without-In D H h j in (inr w.0, w.1)
      | false ↦ λ e j. elim j [
        | inl s ↦ (inl s, subst (λ x. among D x ≡ false) (sym s) e)
        | inr k ↦ let w = without-In D H h k in (inr w.0, w.1)
      ]
    ] refl i

pub In-without : (D H : List Hash) (h : Hash) → In h H → among D h ≡ false → In h (without D H)
In-without D [] h i e = absurd i
In-without D (g ∷ H) h (inl s) e = let f : among D g ≡ false = subst (λ x. among D x ≡ false) s e in rw f (inl s)
In-without D (g ∷ H) h (inr i) e =
    elim (among D g) as (λ b. In h (cond b (without D H) (g ∷ without D H))) [
      | true ↦ In-without D H h i e
      | false ↦ inr (In-without D H h i e)
    ]

without-below : (D H : List Hash) (h : Hash) → IsBelowAll hash_cmp h H → IsBelowAll hash_cmp h (without D H)
without-below D [] h b = tt
without-below D (g ∷ H) h b =
    elim (among D g) as (λ t. IsBelowAll hash_cmp h (cond t (without D H) (g ∷ without D H))) [
      | true ↦ without-below D H h b.1
      | false ↦ (b.0, without-below D H h b.1)
    ]

pub without-rises : (D H : List Hash) → IsRising hash_cmp H → IsRising hash_cmp (without D H)
without-rises D [] r = tt
without-rises D (g ∷ H) r =
    elim (among D g) as (λ t. IsRising hash_cmp (cond t (without D H) (g ∷ without D H))) [
      | true ↦ without-rises D H r.1
      | false ↦ (without-below D H g r.0, without-rises D H r.1)
    ]

-- ---- one more change

-- after the changes of C nothing depends on one that fits
pub none_needs : (C : List ChangeParts) (c : ChangeParts) → Sound C → Fits C c → is_needed (C ++ c ∷ []) c ≡ false
none_needs C c s f =
    not_true (is_needed (C ++ c ∷ []) c)
    (λ t. let w = is_needed-In (C ++ c ∷ []) c t in
    elim (In-append w.0 C (c ∷ []) w.1) [
      | inl i ↦ never (In-names w.0.deps c w.2) (not_among C w.0.deps c (deps_there C s w.0 i) f.new)
      | inr j ↦ elim j [
        | inl e ↦ never (In-names c.deps c (subst (λ (x : ChangeParts). In (hash_of c) x.deps) e w.2)) (not_among C c.deps c f.deps f.new)
        | inr n ↦ absurd n
      ]
    ])

-- The heads where a change entered: its own hash, and the heads that it doesn't depend on.
pub heads-push : (C : List ChangeParts) (c : ChangeParts) → Sound C → Fits C c → heads (C ++ c ∷ []) ≡ put hash_cmp (hash_of c) (without c.deps (heads C))
heads-push C c s f =
    one_list hash_cmp hash_total (heads (C ++ c ∷ [])) (put hash_cmp (hash_of c) (without c.deps (heads C)))
    (heads_rise (C ++ c ∷ []))
    (put-rises hash_cmp hash_total (hash_of c) (without c.deps (heads C)) (without-rises c.deps (heads C) (heads_rise C)))
    (λ h i. let w = heads-In (C ++ c ∷ []) h i in
    let parts : (is_needed C w.0 || is_needed (c ∷ []) w.0) ≡ false = sym (is_needed-append C (c ∷ []) w.0) ∙ w.3 in
    subst (λ g. In g (put hash_cmp (hash_of c) (without c.deps (heads C)))) w.2
    (elim (In-append w.0 C (c ∷ []) w.1) [
      | inl j ↦
          In-put_other hash_cmp (hash_of w.0) (hash_of c) (without c.deps (heads C))
          (In-without c.deps (heads C) (hash_of w.0) (In-heads C w.0 j (neither_left (is_needed C w.0) (is_needed (c ∷ []) w.0) parts))
          (neither_left (names c.deps w.0) false (neither_right (is_needed C w.0) (is_needed (c ∷ []) w.0) parts)))
      | inr j ↦ elim j [
        | inl e ↦ rw e (In-put hash_cmp hash_exact (hash_of c) (without c.deps (heads C)))
        | inr n ↦ absurd n
      ]
    ]))
    (λ h i. elim (put-In hash_cmp h (hash_of c) (without c.deps (heads C)) i) [
      | inl e ↦ rw e (In-heads (C ++ c ∷ []) c (In-last c C) (none_needs C c s f))
      | inr j ↦
          let u = without-In c.deps (heads C) h j in
          let w = heads-In C h u.0 in
          let apart : names c.deps w.0 ≡ false = subst (λ g. among c.deps g ≡ false) (sym w.2) u.1 in
          subst (λ g. In g (heads (C ++ c ∷ []))) w.2
          (In-heads (C ++ c ∷ []) w.0 (In-left w.0 C (c ∷ []) w.1)
          (is_needed-append C (c ∷ []) w.0 ∙ neither (is_needed C w.0) (is_needed (c ∷ []) w.0) w.3 (neither (names c.deps w.0) false apart refl)))
    ])

-- ---- the whole is the past of its heads

whole_from : (A D C : List ChangeParts) → C ≡ A ++ D → DepsFirst C → past D (heads C) ≡ D
whole_from A [] C e o = refl
whole_from A (c ∷ D) C e o =
    let rest = whole_from (A ++ c ∷ []) D C (e ∙ sym (seam A c D)) o in
    ap (with_reached (heads C) c) rest ∙ kept (heads C) c D (stays (truth (is_needed C c)))
  where
    seam : (A : List ChangeParts) (c : ChangeParts) (D : List ChangeParts) → (A ++ c ∷ []) ++ D ≡ A ++ c ∷ D
    seam [] c D = refl
    seam (a ∷ A) c D = ap (λ l. a ∷ l) (seam A c D)

    apart : (A : List ChangeParts) (c : ChangeParts) (D : List ChangeParts) (d : ChangeParts) → DepsFirst (A ++ c ∷ D) → In d A → names d.deps c ≡ false
    apart [] c D d o i = absurd i
    apart (a ∷ A) c D d o (inl s) = subst (λ (x : ChangeParts). names x.deps c ≡ false) (sym s) (o.0 c (inr (In-right c A (c ∷ D) (inl refl))))
    apart (a ∷ A) c D d o (inr i) = apart A c D d o.1 i

    itself : (A : List ChangeParts) (c : ChangeParts) (D : List ChangeParts) → DepsFirst (A ++ c ∷ D) → names c.deps c ≡ false
    itself [] c D o = o.0 c (inl refl)
    itself (a ∷ A) c D o = itself A c D o.1

    stays : ((is_needed C c ≡ true) ⊎ (is_needed C c ≡ false)) → (names (heads C) c || is_needed D c) ≡ true
    stays (inr f) =
        or_left (names (heads C) c) (is_needed D c) (In-names (heads C) c (In-heads C c (subst (λ l. In c l) (sym e) (In-right c A (c ∷ D) (inl refl))) f))
    stays (inl t) =
        let w = is_needed-In C c t in
        let q : DepsFirst (A ++ c ∷ D) = subst DepsFirst e o in
        or_right (names (heads C) c) (is_needed D c)
        (elim (In-append w.0 A (c ∷ D) (subst (λ l. In w.0 l) e w.1)) [
          | inl i ↦ never (In-names w.0.deps c w.2) (apart A c D w.0 q i)
          | inr j ↦ elim j [
            | inl s ↦ never (In-names c.deps c (subst (λ (x : ChangeParts). In (hash_of c) x.deps) s w.2)) (itself A c D q)
            | inr k ↦ In-is_needed D c w.0 k w.2
          ]
        ])

-- the past of the heads is the whole
pub past-heads : (C : List ChangeParts) → DepsFirst C → past C (heads C) ≡ C
past-heads C o = whole_from [] C C refl o

-- ---- the steps of the loops over heads

pub filter-without : (D H : List Hash) → filter (λ h. not (among D h)) H ≡ without D H
filter-without D [] = refl
filter-without D (h ∷ H) =
    elim (among D h) as (λ b. cond (not b) (h ∷ filter (λ g. not (among D g)) H) (filter (λ g. not (among D g)) H) ≡ cond b (without D H) (h ∷ without D H)) [
      | true ↦ filter-without D H
      | false ↦ ap (λ l. h ∷ l) (filter-without D H)
    ]

-- the place is found: what is put is at i
put_here : (x : Hash) (H : List Hash) (i : ℕ) (d : Hash) (o : Ordering) → i < length H → hash_cmp x (get_or H i d) ≡ o
    → put hash_cmp x (drop i H) ≡ put_at o x (get_or H i d) (drop (i + 1) H) (put hash_cmp x (drop (i + 1) H))
put_here x H i d o small e =
    ap (put hash_cmp x) (drop-cons H i d small)
    ∙ ap (λ k. put hash_cmp x (get_or H i d ∷ drop k H)) (sym (add-one i))
    ∙ ap (λ r. put_at r x (get_or H i d) (drop (i + 1) H) (put hash_cmp x (drop (i + 1) H))) e

back : (H : List Hash) (i : ℕ) (d : Hash) → i < length H → get_or H i d ∷ drop (i + 1) H ≡ drop i H
back H i d small = sym (drop-cons H i d small ∙ ap (λ k. get_or H i d ∷ drop k H) (sym (add-one i)))

pub put-less : (x : Hash) (H : List Hash) (i : ℕ) (d : Hash) → i < length H → put hash_cmp x H ≡ take i H ++ put hash_cmp x (drop i H) → hash_cmp x (get_or H i d) ≡ Less
    → put hash_cmp x H ≡ insert H i x
put-less x H i d small e o = e ∙ ap (λ l. take i H ++ l) (put_here x H i d Less small o ∙ ap (λ l. x ∷ l) (back H i d small))

pub put-equal : (x : Hash) (H : List Hash) (i : ℕ) (d : Hash) → i < length H → put hash_cmp x H ≡ take i H ++ put hash_cmp x (drop i H) → hash_cmp x (get_or H i d) ≡ Equal
    → put hash_cmp x H ≡ H
put-equal x H i d small e o = e ∙ ap (λ l. take i H ++ l) (put_here x H i d Equal small o ∙ back H i d small) ∙ take-append-drop i H

pub put-greater : (x : Hash) (H : List Hash) (i : ℕ) (d : Hash) → i < length H → put hash_cmp x H ≡ take i H ++ put hash_cmp x (drop i H) → hash_cmp x (get_or H i d) ≡ Greater
    → put hash_cmp x H ≡ take (i + 1) H ++ put hash_cmp x (drop (i + 1) H)
put-greater x H i d small e o =
    e ∙ ap (λ l. take i H ++ l) (put_here x H i d Greater small o)
    ∙ sym (append_assoc (take i H) (get_or H i d ∷ []) (put hash_cmp x (drop (i + 1) H)))
    ∙ ap (λ l. l ++ put hash_cmp x (drop (i + 1) H)) (sym (take_more H i d small))

pub put-last : (x : Hash) (H : List Hash) (i : ℕ) → length H ≤ i → put hash_cmp x H ≡ take i H ++ put hash_cmp x (drop i H) → put hash_cmp x H ≡ insert H (length H) x
put-last x H i past e =
    let whole : take i H ≡ H = take_all i H past in
    let none : drop i H ≡ [] = drop_all i H past in
    let whole_too : take (length H) H ≡ H = take_all (length H) H (omega arith) in
    let none_too : drop (length H) H ≡ [] = drop_all (length H) H (omega arith) in
    e ∙ ap (λ l. l ++ put hash_cmp x (drop i H)) whole ∙ ap (λ l. H ++ put hash_cmp x l) none
    ∙ sym (ap (λ l. l ++ x ∷ drop (length H) H) whole_too ∙ ap (λ l. H ++ x ∷ l) none_too)
