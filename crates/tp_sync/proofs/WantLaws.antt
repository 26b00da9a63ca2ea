-- Laws of what is wanted.
use Rattle.tp_sync.proofs.Common.{◌≡◌, ◌<◌, ◌≤◌, ◌↔◌, inl, inr, ℕ, zero, suc, ◌+◌, List, [], ◌∷◌, ◌++◌, length, Bool, true, false, ◌||◌, not, Option, take, drop, get_or, filter, refl, sym, ap, ◌∙◌, subst, append_assoc, add-one, drop-cons, min, arith, flat_map, take-append-drop, In, IsBelowAll, IsRising, put, rising, In-append, In-left, In-right, In-filter, filter-In, never, or_cases, or_left, Hash, hash_cmp, ChangeParts, has, MAX_HASHES, insert, Less, Equal, Greater, put_at, rising-In, In-rising, rising-rises, or_right, hash_total, hash_exact, HasPut, is_absent, length-take, take_more, In-middle, below-In, put-In, In-put, In-put_other, put-rises, one_list, among, is_wanted, IsMissing, among-In, In-among, heard_of, wanted_hashes}
use Rattle.std.specs.Ordering.{ordering_reverse}

-- ---- a hash is put at its index

above : (h x : Hash) → hash_cmp h x ≡ Greater → hash_cmp x h ≡ Less
above h x e = hash_total.antisymm x h ∙ ap ordering_reverse e

below : (h x : Hash) → hash_cmp x h ≡ Less → hash_cmp h x ≡ Greater
below h x e = hash_total.antisymm h x ∙ ap ordering_reverse e

put-front : (h : Hash) (B : List Hash) → IsBelowAll hash_cmp h B → put hash_cmp h B ≡ h ∷ B
put-front h [] b = refl
put-front h (y ∷ ys) b = ap (λ o. put_at o h y ys (put hash_cmp h ys)) b.0

put-after : (h : Hash) (A : List Hash) (x : Hash) (B : List Hash) → IsRising hash_cmp (A ++ x ∷ B) → hash_cmp h x ≡ Greater → IsBelowAll hash_cmp h B
    → put hash_cmp h (A ++ x ∷ B) ≡ A ++ (x ∷ h ∷ B)
put-after h [] x B r e b = ap (λ o. put_at o h x B (put hash_cmp h B)) e ∙ ap (λ l. x ∷ l) (put-front h B b)
put-after h (a ∷ A) x B r e b =
    let first : hash_cmp a x ≡ Less = below-In hash_cmp a x (A ++ x ∷ B) r.0 (In-middle A x B) in
    let over : hash_cmp h a ≡ Greater = below h a (hash_total.trans a x h first (above h x e)) in
    ap (λ o. put_at o h a (A ++ x ∷ B) (put hash_cmp h (A ++ x ∷ B))) over ∙ ap (λ l. a ∷ l) (put-after h A x B r.1 e b)

put-there : (h : Hash) (A : List Hash) (x : Hash) (B : List Hash) → IsRising hash_cmp (A ++ x ∷ B) → hash_cmp h x ≡ Equal
    → put hash_cmp h (A ++ x ∷ B) ≡ A ++ x ∷ B
put-there h [] x B r e = ap (λ o. put_at o h x B (put hash_cmp h B)) e
put-there h (a ∷ A) x B r e =
    let first : hash_cmp a x ≡ Less = below-In hash_cmp a x (A ++ x ∷ B) r.0 (In-middle A x B) in
    let over : hash_cmp h a ≡ Greater = below h a (subst (λ y. hash_cmp a y ≡ Less) (sym (hash_exact h x e)) first) in
    ap (λ o. put_at o h a (A ++ x ∷ B) (put hash_cmp h (A ++ x ∷ B))) over ∙ ap (λ l. a ∷ l) (put-there h A x B r.1 e)

parts : (H : List Hash) (j : ℕ) (d : Hash) → j < length H → take j H ++ get_or H j d ∷ drop (j + 1) H ≡ H
parts H j d small = ap (λ n. take j H ++ get_or H j d ∷ drop n H) (add-one j) ∙ ap (λ l. take j H ++ l) (sym (drop-cons H j d small)) ∙ take-append-drop j H

-- it is right after the last one that is below it
pub put_at_index : (h : Hash) (H : List Hash) (j : ℕ) (d : Hash) → j < length H → IsRising hash_cmp H → hash_cmp h (get_or H j d) ≡ Greater → IsBelowAll hash_cmp h (drop (j + 1) H)
    → put hash_cmp h H ≡ insert H (j + 1) h
put_at_index h H j d small r e b =
    let x : Hash = get_or H j d in
    let whole : take j H ++ x ∷ drop (j + 1) H ≡ H = parts H j d small in
    ap (put hash_cmp h) (sym whole)
    ∙ put-after h (take j H) x (drop (j + 1) H) (subst (IsRising hash_cmp) (sym whole) r) e b
    ∙ sym (append_assoc (take j H) (x ∷ []) (h ∷ drop (j + 1) H))
    ∙ ap (λ l. l ++ h ∷ drop (j + 1) H) (sym (take_more H j d small))

pub put_again : (h : Hash) (H : List Hash) (j : ℕ) (d : Hash) → j < length H → IsRising hash_cmp H → hash_cmp h (get_or H j d) ≡ Equal → put hash_cmp h H ≡ H
put_again h H j d small r e =
    let x : Hash = get_or H j d in
    let whole : take j H ++ x ∷ drop (j + 1) H ≡ H = parts H j d small in
    ap (put hash_cmp h) (sym whole) ∙ put-there h (take j H) x (drop (j + 1) H) (subst (IsRising hash_cmp) (sym whole) r) e ∙ whole

pub put_first : (h : Hash) (H : List Hash) → IsBelowAll hash_cmp h H → put hash_cmp h H ≡ insert H 0 h
put_first h H b = put-front h H b

-- ---- what is put

pub HasPut-on : (C W : List ChangeParts) (old hashes new more : List Hash) (g : Hash) → HasPut C W old hashes new → is_absent C W g ≡ true → more ≡ put hash_cmp g new
    → HasPut C W old (hashes ++ g ∷ []) more
HasPut-on C W old hashes new more g w e put_is = rw put_is (record {
  rises = put-rises hash_cmp hash_total g new w.rises;
  there = λ h i. elim (put-In hash_cmp h g new i) [
    | inl same ↦ inr (In-right h hashes (g ∷ []) (inl same), subst (λ x. is_absent C W x ≡ true) (sym same) e)
    | inr j ↦ elim (w.there h j) [ inl k ↦ inl k | inr k ↦ inr (In-left h hashes (g ∷ []) k.0, k.1) ]
  ];
  back = λ h i. elim i [
    | inl j ↦ In-put_other hash_cmp h g new (w.back h (inl j))
    | inr j ↦ elim (In-append h hashes (g ∷ []) j.0) [
      | inl k ↦ In-put_other hash_cmp h g new (w.back h (inr (k, j.1)))
      | inr k ↦ elim k [ inl same ↦ subst (λ x. In x (put hash_cmp g new)) (sym same) (In-put hash_cmp hash_exact g new) | inr no_more ↦ absurd no_more ]
    ]
  ];
})

pub HasPut-by : (C W : List ChangeParts) (old hashes new : List Hash) (g : Hash) → HasPut C W old hashes new → is_absent C W g ≡ false → HasPut C W old (hashes ++ g ∷ []) new
HasPut-by C W old hashes new g w e = record {
  rises = w.rises;
  there = λ h i. elim (w.there h i) [ inl k ↦ inl k | inr k ↦ inr (In-left h hashes (g ∷ []) k.0, k.1) ];
  back = λ h i. elim i [
    | inl j ↦ w.back h (inl j)
    | inr j ↦ elim (In-append h hashes (g ∷ []) j.0) [
      | inl k ↦ w.back h (inr (k, j.1))
      | inr k ↦ elim k [ inl same ↦ never (subst (λ x. is_absent C W x ≡ true) same j.1) e | inr no_more ↦ absurd no_more ]
    ]
  ];
}

-- ---- all that is wanted

is_wanted-In : (W : List ChangeParts) (h : Hash) → is_wanted W h ≡ true → In h (flat_map (λ (c : ChangeParts). c.deps) W)
is_wanted-In [] h e = cc
is_wanted-In (c ∷ W) h e = elim (or_cases (among c.deps h) (is_wanted W h) e) [
  | inl t ↦ In-left h c.deps (flat_map (λ (c : ChangeParts). c.deps) W) (among-In c.deps h t)
  | inr t ↦ In-right h c.deps (flat_map (λ (c : ChangeParts). c.deps) W) (is_wanted-In W h t)
]

In-is_wanted : (W : List ChangeParts) (h : Hash) → In h (flat_map (λ (c : ChangeParts). c.deps) W) → is_wanted W h ≡ true
In-is_wanted [] h i = absurd i
In-is_wanted (c ∷ W) h i = elim (In-append h c.deps (flat_map (λ (c : ChangeParts). c.deps) W) i) [
  | inl j ↦ or_left (among c.deps h) (is_wanted W h) (In-among c.deps h j)
  | inr j ↦ or_right (among c.deps h) (is_wanted W h) (In-is_wanted W h j)
]

absent-by : (a b : Bool) → a ≡ false → b ≡ false → not (a || b) ≡ true
absent-by true b e f = cc
absent-by false true e f = cc
absent-by false false e f = refl

absent-applied : (a b : Bool) → not (a || b) ≡ true → a ≡ false
absent-applied true b e = cc
absent-applied false b e = refl

absent-waiting : (a b : Bool) → not (a || b) ≡ true → b ≡ false
absent-waiting true b e = cc
absent-waiting false true e = cc
absent-waiting false false e = refl

-- what is missing, with those of the other's heads that are absent, is all that is wanted
pub wanted_is : (C W : List ChangeParts) (theirs missing found : List Hash) → ((h : Hash) → In h missing ↔ IsMissing C W h) → HasPut C W missing theirs found
    → found ≡ rising hash_cmp (filter (is_absent C W) (theirs ++ flat_map (λ (c : ChangeParts). c.deps) W))
wanted_is C W theirs missing found lacks w =
    let all : List Hash = theirs ++ flat_map (λ (c : ChangeParts). c.deps) W in
    let absent : Hash → Bool = is_absent C W in
    one_list hash_cmp hash_total found (rising hash_cmp (filter absent all)) w.rises (rising-rises hash_cmp hash_total (filter absent all))
    (λ h i. In-rising hash_cmp hash_exact h (filter absent all) (elim (w.there h i) [
      | inl j ↦
          let m = (lacks h).0 j in
          filter-In absent all h (In-right h theirs (flat_map (λ (c : ChangeParts). c.deps) W) (is_wanted-In W h m.wanted)) (absent-by (has C h) (has W h) m.not_applied m.not_waiting)
      | inr j ↦ filter-In absent all h (In-left h theirs (flat_map (λ (c : ChangeParts). c.deps) W) j.0) j.1
    ]))
    (λ h i.
    let f = In-filter absent all h (rising-In hash_cmp h (filter absent all) i) in
    w.back h (elim (In-append h theirs (flat_map (λ (c : ChangeParts). c.deps) W) f.0) [
      | inl j ↦ inr (j, f.1)
      | inr j ↦ inl ((lacks h).1 (record { wanted = In-is_wanted W h j; not_applied = absent-applied (has C h) (has W h) f.1; not_waiting = absent-waiting (has C h) (has W h) f.1 }))
    ]))

-- ---- the loop that puts

pub HasPut-more : (C W : List ChangeParts) (old hashes : List Hash) (i : ℕ) (d : Hash) (new more : List Hash) → i < length hashes → HasPut C W old (take i hashes) new
    → is_absent C W (get_or hashes i d) ≡ true → more ≡ put hash_cmp (get_or hashes i d) new → HasPut C W old (take (i + 1) hashes) more
HasPut-more C W old hashes i d new more small w e put_is =
    subst (λ l. HasPut C W old l more) (sym (take_more hashes i d small)) (HasPut-on C W old (take i hashes) new more (get_or hashes i d) w e put_is)

pub HasPut-less : (C W : List ChangeParts) (old hashes : List Hash) (i : ℕ) (d : Hash) (new more : List Hash) → i < length hashes → HasPut C W old (take i hashes) new
    → is_absent C W (get_or hashes i d) ≡ false → more ≡ new → HasPut C W old (take (i + 1) hashes) more
HasPut-less C W old hashes i d new more small w e same =
    subst (λ l. HasPut C W old l more) (sym (take_more hashes i d small)) (subst (HasPut C W old (take i hashes ++ get_or hashes i d ∷ [])) (sym same) (HasPut-by C W old (take i hashes) new (get_or hashes i d) w e))

-- ---- limits

below_front : (x : Hash) (H : List Hash) (n : ℕ) → IsBelowAll hash_cmp x H → IsBelowAll hash_cmp x (take n H)
below_front x H zero b = tt
below_front x [] (suc n) b = tt
below_front x (h ∷ H) (suc n) b = (b.0, below_front x H n b.1)

front_rises : (H : List Hash) (n : ℕ) → IsRising hash_cmp H → IsRising hash_cmp (take n H)
front_rises H zero r = tt
front_rises [] (suc n) r = tt
front_rises (h ∷ H) (suc n) r = (below_front h H n r.0, front_rises H n r.1)

pub wanted_rises : (C W : List ChangeParts) (theirs : Option (List Hash)) → IsRising hash_cmp (wanted_hashes C W theirs)
wanted_rises C W theirs = front_rises (rising hash_cmp (filter (is_absent C W) (heard_of W theirs))) MAX_HASHES (rising-rises hash_cmp hash_total (filter (is_absent C W) (heard_of W theirs)))

pub wanted_few : (C W : List ChangeParts) (theirs : Option (List Hash)) → length (wanted_hashes C W theirs) ≤ MAX_HASHES
wanted_few C W theirs =
    let all : List Hash = rising hash_cmp (filter (is_absent C W) (heard_of W theirs)) in
    let e : length (take MAX_HASHES all) ≡ min MAX_HASHES (length all) = length-take MAX_HASHES all in
    omega arith
