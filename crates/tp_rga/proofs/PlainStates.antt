-- What an insert and a delete leave of a plain sequence's parts, and what its reads find.
use Rattle.std.proofs.Common.{◌≡◌, ℕ, zero, suc, ◌+◌, ◌-◌, ◌≤◌, Bool, true, false, not, ◌||◌, cond, Some, None, List, [], ◌∷◌, ◌++◌, length, take, drop, get_or, insert, set, filter, map, position, slice_get, refl, sym, ap, ◌∙◌, subst, arith, inl, inr}
use Rattle.std.specs.List.{list_any}
use Rattle.std.specs.Option.{option_map}
use Rattle.std.proofs.lemmas.List.{take-append-drop, set_at, length-map, map-append}
use Rattle.tp_list.specs.Members.{In}
use Rattle.tp_list.proofs.Members.{In-left, In-right, In-append, In-middle}
use Rattle.tp_opid.specs.declared.op_id.OpId.{OpId}
use Rattle.tp_opid.specs.Insert.{Insert}
use Rattle.tp_opid.specs.Same.{id_eq}
use Rattle.tp_opid.specs.Tree.{IsThere, IsNew, IdsApart}
use Rattle.tp_opid.proofs.Orders.{id_eq-same, id_eq-itself, id_eq-flip}
use Rattle.tp_opid.proofs.Trees.{IsThere-grow}
use Rattle.tp_rga.specs.Shown.{is_removed, visible_of, visible_before}
use Rattle.tp_rga.specs.PlainState.{IsPlainState}
use Rattle.tp_rga.proofs.Lookups.{IsFirst}
use Rattle.tp_rga.proofs.Flagging.{map-insert, length-filter-insert, map_agree, filter_agree_in, length-left, slice_get-left, slice_get-past, take-map_lem}

-- ---- an insert

-- a list without two of one identifier, with a new one put in
IdsApart-put : (A B : List Insert) (x : Insert) → IdsApart (A ++ B) → IsNew (A ++ B) x.id → IdsApart (A ++ x ∷ B)
IdsApart-put [] B x apart new = (λ e i. id_eq-flip x.id e.id (id_eq-flip e.id x.id (new e i)), apart)
IdsApart-put (a ∷ A) B x apart new = (
  λ e i. elim (In-append e A (x ∷ B) i) as (λ _. id_eq e.id a.id ≡ false) [
    | inl j ↦ apart.0 e (In-left e A B j)
    | inr (inl j) ↦ subst (λ (w : Insert). id_eq w.id a.id ≡ false) (sym j) (id_eq-flip a.id x.id (new a (inl refl)))
    | inr (inr j) ↦ apart.0 e (In-right e A B j)
  ],
  IdsApart-put A B x apart.1 (λ e i. new e (inr i)),
)

-- deletes of elements that are there name no new one
is_removed-new : (L : List Insert) (R : List (OpId × OpId)) (x : OpId) → ((r : OpId × OpId) → In r R → IsThere L r.0) → IsNew L x → is_removed R x ≡ false
is_removed-new L [] x targets new = refl
is_removed-new L (r ∷ R) x targets new =
    let here : id_eq r.0 x ≡ false = new _ (targets r (inl refl)).1.1 in
    subst (λ b. (b || list_any (λ s. id_eq s.0 x) R) ≡ false) (sym here) (is_removed-new L R x (λ s i. targets s (inr i)) new)

-- a new element with its flag down
pub IsPlainState-insert : (L : List Insert) (flags : List Bool) (R : List (OpId × OpId)) (n i : ℕ) (x : Insert) → IsPlainState L flags R n → IsNew L x.id → IsPlainState (insert L i x) (insert flags i false) R (n + 1)
IsPlainState-insert L flags R n i x kept new =
    let whole : take i L ++ drop i L ≡ L = take-append-drop i L in
    let down : is_removed R x.id ≡ false = is_removed-new L R x.id kept.targets new in
    record {
      apart = IdsApart-put (take i L) (drop i L) x (subst IdsApart (sym whole) kept.apart) (subst (λ w. IsNew w x.id) (sym whole) new);
      targets = λ r j. IsThere-grow L (insert L i x) (λ e m. put_keeps (take i L) (drop i L) x e (subst (In e) (sym whole) m)) r.0 (kept.targets r j);
      flagged = ap (λ z. insert z i false) kept.flagged ∙ ap (λ b. insert (map (λ (e : Insert). is_removed R e.id) L) i b) (sym down) ∙ sym (map-insert (λ (e : Insert). is_removed R e.id) L i x);
      counted = (let more = length-filter-insert (λ (e : Insert). not (is_removed R e.id)) L i x (ap not down) in omega (arith, kept.counted));
    }
  where
    put_keeps : (A B : List Insert) (y e : Insert) → In e (A ++ B) → In e (A ++ y ∷ B)
    put_keeps A B y e m = elim (In-append e A B m) as (λ _. In e (A ++ y ∷ B)) [ inl j ↦ In-left e A (y ∷ B) j | inr j ↦ In-right e A (y ∷ B) (inr j) ]

-- ---- a delete

-- a delete of another element changes nothing
pub removed-other : (R : List (OpId × OpId)) (t b x : OpId) → id_eq t x ≡ false → is_removed (R ++ (t, b) ∷ []) x ≡ is_removed R x
removed-other [] t b x e = ap (λ v. v || false) e
removed-other (r ∷ R) t b x e = ap (λ v. id_eq r.0 x || v) (removed-other R t b x e)

-- a delete of an element deletes it
pub removed-itself : (R : List (OpId × OpId)) (t b x : OpId) → id_eq t x ≡ true → is_removed (R ++ (t, b) ∷ []) x ≡ true
removed-itself [] t b x e = ap (λ v. v || false) e
removed-itself (r ∷ R) t b x e =
    elim (id_eq r.0 x) as (λ v. (v || is_removed (R ++ (t, b) ∷ []) x) ≡ true) [ true ↦ refl | false ↦ removed-itself R t b x e ]

-- in a list without two of one identifier, what is before and after an element has another
IdsApart-prefix : (A : List Insert) (e : Insert) (B : List Insert) → IdsApart (A ++ e ∷ B) → (d : Insert) → In d A → id_eq e.id d.id ≡ false
IdsApart-prefix [] e B apart d i = absurd i
IdsApart-prefix (a ∷ A) e B apart d (inl i) = subst (λ (w : Insert). id_eq e.id w.id ≡ false) (sym i) (apart.0 e (In-middle A e B))
IdsApart-prefix (a ∷ A) e B apart d (inr i) = IdsApart-prefix A e B apart.1 d i

-- and likewise what is after it
IdsApart-back : (A : List Insert) (e : Insert) (B : List Insert) → IdsApart (A ++ e ∷ B) → (d : Insert) → In d B → id_eq e.id d.id ≡ false
IdsApart-back [] e B apart d i = id_eq-flip d.id e.id (apart.0 d i)
IdsApart-back (a ∷ A) e B apart d i = IdsApart-back A e B apart.1 d i

-- the targets with one more
targets-push : (L : List Insert) (R : List (OpId × OpId)) (t b : OpId) → ((r : OpId × OpId) → In r R → IsThere L r.0) → IsThere L t → (r : OpId × OpId) → In r (R ++ (t, b) ∷ []) → IsThere L r.0
targets-push L R t b targets there r i =
    elim (In-append r R ((t, b) ∷ []) i) as (λ _. IsThere L r.0) [
      | inl j ↦ targets r j
      | inr (inl j) ↦ subst (λ (w : OpId × OpId). IsThere L w.0) (sym j) there
      | inr (inr j) ↦ absurd j
    ]

-- a delete of an element that is deleted already changes no flag
kept_again : (R : List (OpId × OpId)) (t b : OpId) (A : List Insert) (e : Insert) (B : List Insert) → IdsApart (A ++ e ∷ B) → e.id ≡ t → is_removed R t ≡ true → (d : Insert) → In d (A ++ e ∷ B) → is_removed R d.id ≡ is_removed (R ++ (t, b) ∷ []) d.id
kept_again R t b A e B apart names removed d i =
    let other : (x : OpId) → id_eq e.id x ≡ false → is_removed R x ≡ is_removed (R ++ (t, b) ∷ []) x =
    (λ x h. sym (removed-other R t b x (subst (λ w. id_eq w x ≡ false) names h))) in
    elim (In-append d A (e ∷ B) i) as (λ _. is_removed R d.id ≡ is_removed (R ++ (t, b) ∷ []) d.id) [
      | inl j ↦ other d.id (IdsApart-prefix A e B apart d j)
      | inr (inl j) ↦ subst (λ w. is_removed R w ≡ is_removed (R ++ (t, b) ∷ []) w) (sym (ap (λ (w : Insert). w.id) j ∙ names)) (removed ∙ sym (removed-itself R t b t (id_eq-itself t)))
      | inr (inr j) ↦ other d.id (IdsApart-back A e B apart d j)
    ]

-- the flag of the element that a look-up found
flag_of_found : (L : List Insert) (R : List (OpId × OpId)) (t : OpId) (i : ℕ) (h : IsFirst (λ (e : Insert). id_eq e.id t) L (Some i)) (b : Bool) → b ≡ get_or (map (λ (e : Insert). is_removed R e.id) L) i b → is_removed R t ≡ b
flag_of_found L R t i h b read =
    let f : Insert → Bool = λ (e : Insert). is_removed R e.id in
    let parts : map f L ≡ map f h.0 ++ f h.1 ∷ map f h.2 = ap (map f) h.3 ∙ map-append f h.0 (h.1 ∷ h.2) in
    let at : get_or (map f L) i b ≡ f h.1 = ap (λ z. get_or z i b) parts ∙ get_or_middle (map f h.0) (f h.1) (map f h.2) i (length-map h.0 f ∙ h.4) b in
    sym (ap (is_removed R) (id_eq-same h.1.id t h.5)) ∙ sym at ∙ sym read
  where
    get_or_middle : (A : List Bool) (e : Bool) (B : List Bool) (n : ℕ) → length A ≡ n → (d : Bool) → get_or (A ++ e ∷ B) n d ≡ e
    get_or_middle [] e B zero h d = refl
    get_or_middle [] e B (suc n) h d = absurd (omega arith)
    get_or_middle (a ∷ A) e B zero h d = absurd (omega arith)
    get_or_middle (a ∷ A) e B (suc n) h d = get_or_middle A e B n (omega arith) d

-- the element that a look-up found is deleted already
pub IsPlainState-delete_again : (L : List Insert) (flags : List Bool) (R : List (OpId × OpId)) (n : ℕ) (t b : OpId) (i : ℕ) → IsPlainState L flags R n → IsFirst (λ (e : Insert). id_eq e.id t) L (Some i) → (read : Bool) → read ≡ get_or flags i read → read ≡ true → IsThere L t → IsPlainState L flags (R ++ (t, b) ∷ []) n
IsPlainState-delete_again L flags R n t b i kept h read is up there =
    let removed : is_removed R t ≡ true = flag_of_found L R t i h read (subst (λ z. read ≡ get_or z i read) kept.flagged is) ∙ up in
    let same : (d : Insert) → In d L → is_removed R d.id ≡ is_removed (R ++ (t, b) ∷ []) d.id =
    (λ d j. kept_again R t b h.0 h.1 h.2 (subst IdsApart h.3 kept.apart) (id_eq-same h.1.id t h.5) removed d (subst (In d) h.3 j)) in
    record {
      apart = kept.apart;
      targets = targets-push L R t b kept.targets there;
      flagged = kept.flagged ∙ map_agree (λ (e : Insert). is_removed R e.id) (λ (e : Insert). is_removed (R ++ (t, b) ∷ []) e.id) L same;
      counted = kept.counted ∙ ap length (filter_agree_in (λ (e : Insert). not (is_removed R e.id)) (λ (e : Insert). not (is_removed (R ++ (t, b) ∷ []) e.id)) L (λ d j. ap not (same d j)));
    }

-- the element that a look-up found is deleted now
pub IsPlainState-delete : (L : List Insert) (flags : List Bool) (R : List (OpId × OpId)) (n : ℕ) (t b : OpId) (i : ℕ) → IsPlainState L flags R n → IsFirst (λ (e : Insert). id_eq e.id t) L (Some i) → (read : Bool) → read ≡ get_or flags i read → read ≡ false → IsThere L t → (1 ≤ n) × IsPlainState L (set flags i true) (R ++ (t, b) ∷ []) (n - 1)
IsPlainState-delete L flags R n t b i kept h read is down there =
    let S = R ++ (t, b) ∷ [] in
    let f : Insert → Bool = λ (e : Insert). is_removed R e.id in
    let g : Insert → Bool = λ (e : Insert). is_removed S e.id in
    let names : h.1.id ≡ t = id_eq-same h.1.id t h.5 in
    let apart = subst IdsApart h.3 kept.apart in
    let was : f h.1 ≡ false = ap (is_removed R) names ∙ flag_of_found L R t i h read (subst (λ z. read ≡ get_or z i read) kept.flagged is) ∙ down in
    let now : g h.1 ≡ true = ap (is_removed S) names ∙ removed-itself R t b t (id_eq-itself t) in
    let prefix : (d : Insert) → In d h.0 → f d ≡ g d = (λ d j. sym (removed-other R t b d.id (subst (λ w. id_eq w d.id ≡ false) names (IdsApart-prefix h.0 h.1 h.2 apart d j)))) in
    let back : (d : Insert) → In d h.2 → f d ≡ g d = (λ d j. sym (removed-other R t b d.id (subst (λ w. id_eq w d.id ≡ false) names (IdsApart-back h.0 h.1 h.2 apart d j)))) in
    let old_flags : flags ≡ map f h.0 ++ f h.1 ∷ map f h.2 = kept.flagged ∙ ap (map f) h.3 ∙ map-append f h.0 (h.1 ∷ h.2) in
    let new_flags : map g L ≡ map g h.0 ++ g h.1 ∷ map g h.2 = ap (map g) h.3 ∙ map-append g h.0 (h.1 ∷ h.2) in
    let written : set flags i true ≡ map f h.0 ++ true ∷ map f h.2 = ap (λ z. set z i true) old_flags ∙ set_at (map f h.0) (f h.1) (map f h.2) true i (length-map h.0 f ∙ h.4) in
    let same_flags : map f h.0 ++ true ∷ map f h.2 ≡ map g h.0 ++ g h.1 ∷ map g h.2 =
    (let e0 = map_agree f g h.0 prefix in let e2 = map_agree f g h.2 back in cc) in
    let p : Insert → Bool = λ (e : Insert). not (f e) in
    let q : Insert → Bool = λ (e : Insert). not (g e) in
    let old_left : length (visible_of R L) ≡ length (filter p h.0) + suc (length (filter p h.2)) =
    ap (λ z. length (filter p z)) h.3 ∙ left_with p h.0 h.1 h.2 (ap not was) in
    let new_left : length (visible_of S L) ≡ length (filter q h.0) + length (filter q h.2) =
    ap (λ z. length (filter q z)) h.3 ∙ left_without q h.0 h.1 h.2 (ap not now) in
    let e0 : filter p h.0 ≡ filter q h.0 = filter_agree_in p q h.0 (λ d j. ap not (prefix d j)) in
    let e2 : filter p h.2 ≡ filter q h.2 = filter_agree_in p q h.2 (λ d j. ap not (back d j)) in
    let l0 = ap length e0 in
    let l2 = ap length e2 in (
      omega (arith, kept.counted),
      record {
        apart = kept.apart;
        targets = targets-push L R t b kept.targets there;
        flagged = written ∙ same_flags ∙ sym new_flags;
        counted = omega (arith, kept.counted);
      },
    )
  where
    left_with : (p : Insert → Bool) (A : List Insert) (e : Insert) (B : List Insert) → p e ≡ true → length (filter p (A ++ e ∷ B)) ≡ length (filter p A) + suc (length (filter p B))
    left_with p [] e B h = ap (λ b. length (cond b (e ∷ filter p B) (filter p B))) h ∙ omega arith
    left_with p (a ∷ A) e B h =
        let rest = left_with p A e B h in
        elim (p a) as (λ b. length (cond b (a ∷ filter p (A ++ e ∷ B)) (filter p (A ++ e ∷ B))) ≡ length (cond b (a ∷ filter p A) (filter p A)) + suc (length (filter p B))) [ true ↦ omega arith | false ↦ rest ]

    left_without : (p : Insert → Bool) (A : List Insert) (e : Insert) (B : List Insert) → p e ≡ false → length (filter p (A ++ e ∷ B)) ≡ length (filter p A) + length (filter p B)
    left_without p [] e B h = ap (λ b. length (cond b (e ∷ filter p B) (filter p B))) h ∙ omega arith
    left_without p (a ∷ A) e B h =
        let rest = left_without p A e B h in
        elim (p a) as (λ b. length (cond b (a ∷ filter p (A ++ e ∷ B)) (filter p (A ++ e ∷ B))) ≡ length (cond b (a ∷ filter p A) (filter p A)) + length (filter p B)) [ true ↦ omega arith | false ↦ rest ]

-- ---- reads

-- the element found by the flags has that place in the text
pub visible_of-found : (L : List Insert) (flags : List Bool) (R : List (OpId × OpId)) (n k i : ℕ) (x : Insert) → IsPlainState L flags R n → slice_get flags k ≡ Some false → length (filter not (take k flags)) ≡ i → x ≡ get_or L k x → slice_get (visible_of R L) i ≡ Some x
visible_of-found L flags R n k i x kept down before here =
    let f : Insert → Bool = λ (e : Insert). is_removed R e.id in
    let count : length (filter not (take k (map f L))) ≡ i = ap (λ z. length (filter not (take k z))) (sym kept.flagged) ∙ before in
    subst (λ m. slice_get (visible_of R L) m ≡ Some x) count (slice_get-left f L k x (subst (λ z. slice_get z k ≡ Some false) kept.flagged down) here)

-- past what is shown there is nothing
pub visible_of-past : (L : List Insert) (flags : List Bool) (R : List (OpId × OpId)) (n i : ℕ) → IsPlainState L flags R n → length (filter not flags) ≤ i → slice_get (visible_of R L) i ≡ None
visible_of-past L flags R n i kept past =
    let e : length (filter not flags) ≡ length (visible_of R L) = ap (λ z. length (filter not z)) kept.flagged ∙ length-left (λ (e : Insert). is_removed R e.id) L in
    slice_get-past (visible_of R L) i (omega arith)

-- as many flags are down before a place as elements are shown
pub visible_of-before : (L : List Insert) (flags : List Bool) (R : List (OpId × OpId)) (n k : ℕ) → IsPlainState L flags R n → length (filter not (take k flags)) ≡ length (visible_of R (take k L))
visible_of-before L flags R n k kept =
    let f : Insert → Bool = λ (e : Insert). is_removed R e.id in
    ap (λ z. length (filter not (take k z))) kept.flagged ∙ ap (λ z. length (filter not z)) (take-map_lem f k L) ∙ length-left f (take k L)

-- how many are shown before an element that a look-up found
pub visible_before-found : (R : List (OpId × OpId)) (L : List Insert) (x : OpId) (k : ℕ) → position (λ (e : Insert). id_eq e.id x) L ≡ Some k → visible_before R L x ≡ Some (length (visible_of R (take k L)))
visible_before-found R L x k e = ap (option_map (λ i. length (visible_of R (take i L)))) e

-- a test keeps no more than there is
length-filter_le : {X : Type 0} (p : X → Bool) (xs : List X) → length (filter p xs) ≤ length xs
length-filter_le p [] = omega arith
length-filter_le p (x ∷ xs) =
    let rest = length-filter_le p xs in
    elim (p x) as (λ b. length (cond b (x ∷ filter p xs) (filter p xs)) ≤ suc (length xs)) [ true ↦ omega arith | false ↦ omega arith ]

-- no more elements are shown than there are
pub IsPlainState-left : (L : List Insert) (flags : List Bool) (R : List (OpId × OpId)) (n : ℕ) → IsPlainState L flags R n → n ≤ length L
IsPlainState-left L flags R n kept =
    let le = length-filter_le (λ (e : Insert). not (is_removed R e.id)) L in omega (arith, kept.counted)
