-- What a snapshot shows, element by element.
use Rattle.tp_snapshot.proofs.Common.{◌≡◌, ℕ, suc, zero, ◌+◌, ◌-◌, ◌<◌, List, [], ◌∷◌, ◌++◌, length, take, drop, get_or, Bool, true, false, not, ◌||◌, ◌&&◌, cond, Option, Some, None, position, refl, sym, ap, ◌∙◌, arith, append-nil, slice_get, option_map, take_more, length-append, Actor, OpId, Insert, id_eq, is_removed, visible_of, visible_before, chars_of, shown_by, id_eq-same, has_op, AreTargets, is_in_stretches, inserts_by, deletes_by, map-append, or_right, encode_utf8, encode_utf8_all, encodes-append, filter-append, seen_of, seen_at, seen_end, take_all, drop_all}
use Rattle.tp_snapshot.specs.declared.targets.Stretch.{Stretch}
use Rattle.tp_rga.specs.declared.walk.Seen.{Seen}
use Rattle.tp_rga.specs.Shown.{index_in}
use Rattle.tp_rga.proofs.Indexing.{left_from}
use Rattle.tp_rga.proofs.Lookups.{position-cons}

-- whether an element is shown
abbrev pub is_shown : List (Actor × ℕ) → List (OpId × OpId) → Insert → Bool
is_shown K R e = has_op K e.id && not (is_removed (deletes_by K R) e.id)

-- the test that a snapshot makes
abbrev pub tested : List (Actor × ℕ) → List Stretch → Seen → Bool
tested K T x = has_op K x.id && not (x.deleted && is_in_stretches T x.id)

-- what one of the kept deletes names, one of all names
pub removed_before : (K : List (Actor × ℕ)) (R : List (OpId × OpId)) (x : OpId) → is_removed (deletes_by K R) x ≡ true → is_removed R x ≡ true
removed_before K [] x h = h
removed_before K (r ∷ R) x h =
    elim (has_op K r.1) as (λ b. is_removed (cond b (r ∷ deletes_by K R) (deletes_by K R)) x ≡ true → (id_eq r.0 x || is_removed R x) ≡ true) [
      | true ↦ λ k. either (id_eq r.0 x) (is_removed (deletes_by K R) x) (is_removed R x) (removed_before K R x) k
      | false ↦ λ k. or_right (id_eq r.0 x) (is_removed R x) (removed_before K R x k)
    ] h where
      either : (a b c : Bool) → (b ≡ true → c ≡ true) → (a || b) ≡ true → (a || c) ≡ true
      either true b c f h = refl
      either false b c f h = f h

pub test_is : (K : List (Actor × ℕ)) (R : List (OpId × OpId)) (T : List Stretch) (e : Insert) → AreTargets T K R → tested K T (seen_of R e) ≡ is_shown K R e
test_is K R T e targets =
    ap (λ b. has_op K e.id && not b) (both_are (is_removed R e.id) (is_in_stretches T e.id) (is_removed (deletes_by K R) e.id) (targets e.id) (removed_before K R e.id)) where
      both_are : (a b c : Bool) → b ≡ c → (c ≡ true → a ≡ true) → (a && b) ≡ c
      both_are true b c e f = e
      both_are false b true e f = f refl
      both_are false b false e f = refl

-- the first element is shown or isn't
pub shown_first : (K : List (Actor × ℕ)) (R : List (OpId × OpId)) (e : Insert) (L : List Insert) → shown_by K R (e ∷ L) ≡ cond (is_shown K R e) (e ∷ shown_by K R L) (shown_by K R L)
shown_first K R e L =
    let D = deletes_by K R in
    let M = inserts_by K L in
    elim (has_op K e.id) as (λ b. visible_of D (cond b (e ∷ M) M) ≡ cond (b && not (is_removed D e.id)) (e ∷ visible_of D M) (visible_of D M)) [
      | true ↦ refl
      | false ↦ refl
    ]

shown_append : (K : List (Actor × ℕ)) (R : List (OpId × OpId)) (A B : List Insert) → shown_by K R (A ++ B) ≡ shown_by K R A ++ shown_by K R B
shown_append K R A B =
    ap (visible_of (deletes_by K R)) (filter-append (λ (e : Insert). has_op K e.id) A B)
    ∙ filter-append (λ (e : Insert). not (is_removed (deletes_by K R) e.id)) (inserts_by K A) (inserts_by K B)

test_at : (K : List (Actor × ℕ)) (R : List (OpId × OpId)) (T : List Stretch) (x : Seen) (e : Insert) (b : Bool) → AreTargets T K R → x ≡ seen_of R e → tested K T x ≡ b → is_shown K R e ≡ b
test_at K R T x e b targets is h = sym (test_is K R T e targets) ∙ ap (tested K T) (sym is) ∙ h

-- ---- the text of a prefix

-- the bytes of the characters that are shown
abbrev pub bytes_by : List (Actor × ℕ) → List (OpId × OpId) → List Insert → List ℕ
bytes_by K R L = encode_utf8_all (chars_of (shown_by K R L))

shown_more : (K : List (Actor × ℕ)) (R : List (OpId × OpId)) (L : List Insert) (k : ℕ) (e : Insert) → k < length L → get_or L k e ≡ e → shown_by K R (take (k + 1) L) ≡ shown_by K R (take k L) ++ cond (is_shown K R e) (e ∷ []) []
shown_more K R L k e lt is =
    let more : take (k + 1) L ≡ take k L ++ e ∷ [] = take_more L k e lt ∙ ap (λ x. take k L ++ x ∷ []) is in
    ap (shown_by K R) more ∙ shown_append K R (take k L) (e ∷ []) ∙ ap (λ l. shown_by K R (take k L) ++ l) (shown_first K R e [])

-- an element that is shown comes after those before it, and another adds nothing
shown_next : (K : List (Actor × ℕ)) (R : List (OpId × OpId)) (T : List Stretch) (L : List Insert) (k : ℕ) (x : Seen) (b : Bool) → AreTargets T K R → Some x ≡ option_map (seen_of R) (slice_get L k)
    → tested K T x ≡ b → (e : Insert) × (x ≡ seen_of R e) × (shown_by K R (take (k + 1) L) ≡ shown_by K R (take k L) ++ cond b (e ∷ []) [])
shown_next K R T L k x b targets h t =
    let p = seen_at R L k x h in
    (p.0, p.3, shown_more K R L k p.0 p.1 p.2 ∙ ap (λ t. shown_by K R (take k L) ++ cond t (p.0 ∷ []) []) (test_at K R T x p.0 b targets p.3 t))

pub hidden_by : (K : List (Actor × ℕ)) (R : List (OpId × OpId)) (T : List Stretch) (L : List Insert) (k : ℕ) (x : Seen) → AreTargets T K R → Some x ≡ option_map (seen_of R) (slice_get L k)
    → tested K T x ≡ false → shown_by K R (take (k + 1) L) ≡ shown_by K R (take k L)
hidden_by K R T L k x targets h t = (shown_next K R T L k x false targets h t).2 ∙ append-nil (shown_by K R (take k L))

pub bytes_by-shown : (K : List (Actor × ℕ)) (R : List (OpId × OpId)) (T : List Stretch) (L : List Insert) (k : ℕ) (x : Seen) → AreTargets T K R → Some x ≡ option_map (seen_of R) (slice_get L k)
    → tested K T x ≡ true → bytes_by K R (take (k + 1) L) ≡ bytes_by K R (take k L) ++ encode_utf8 x.ch
bytes_by-shown K R T L k x targets h t =
    let p = shown_next K R T L k x true targets h t in
    ap (λ l. encode_utf8_all (chars_of l)) p.2
    ∙ ap encode_utf8_all (map-append (λ (y : Insert). y.ch) (shown_by K R (take k L)) (p.0 ∷ []))
    ∙ encodes-append (chars_of (shown_by K R (take k L))) (chars_of (p.0 ∷ []))
    ∙ ap (λ l. bytes_by K R (take k L) ++ l) (append-nil (encode_utf8 p.0.ch) ∙ ap (λ (y : Seen). encode_utf8 y.ch) (sym p.1))

pub length_by-shown : (K : List (Actor × ℕ)) (R : List (OpId × OpId)) (T : List Stretch) (L : List Insert) (k : ℕ) (x : Seen) → AreTargets T K R → Some x ≡ option_map (seen_of R) (slice_get L k)
    → tested K T x ≡ true → length (shown_by K R (take (k + 1) L)) ≡ length (shown_by K R (take k L)) + 1
length_by-shown K R T L k x targets h t = let p = shown_next K R T L k x true targets h t in ap length p.2 ∙ length-append (shown_by K R (take k L)) (p.0 ∷ [])

-- ---- how many are shown before an element

-- those of the past that are before an element of the past
abbrev pub before_by : List (Actor × ℕ) → List (OpId × OpId) → List Insert → OpId → Option ℕ
before_by K R L x = visible_before (deletes_by K R) (inserts_by K L) x

before_cons : (D : List (OpId × OpId)) (e : Insert) (M : List Insert) (x : OpId) → id_eq e.id x ≡ false → visible_before D (e ∷ M) x ≡ option_map (λ n. length (visible_of D (e ∷ [])) + n) (visible_before D M x)
before_cons D e M x apart =
    ap (option_map (λ i. length (visible_of D (take i (e ∷ M))))) (position-cons (λ (w : Insert). id_eq w.id x) e M)
    ∙ ap (λ b. option_map (λ i. length (visible_of D (take i (e ∷ M)))) (cond b (Some 0) (option_map (λ i. suc i) (position (λ (w : Insert). id_eq w.id x) M)))) apart
    ∙ more (position (λ (w : Insert). id_eq w.id x) M) where
      one : (b : Bool) (l : List Insert) → length (cond b (e ∷ l) l) ≡ length (cond b (e ∷ []) []) + length l
      one true l = omega arith
      one false l = omega arith

      more : (o : Option ℕ) → option_map (λ i. length (visible_of D (take i (e ∷ M)))) (option_map (λ i. suc i) o) ≡ option_map (λ n. length (visible_of D (e ∷ [])) + n) (option_map (λ i. length (visible_of D (take i M))) o)
      more None = refl
      more (Some i) = ap Some (one (not (is_removed D e.id)) (visible_of D (take i M)))

none_more : (o : Option ℕ) → o ≡ option_map (λ n. 0 + n) o
none_more None = refl
none_more (Some n) = ap Some (omega arith)

-- an element other than that one is one more where it is shown
before_next : (K : List (Actor × ℕ)) (R : List (OpId × OpId)) (e : Insert) (L : List Insert) (x : OpId) → id_eq e.id x ≡ false → before_by K R (e ∷ L) x ≡ option_map (λ n. length (cond (is_shown K R e) (e ∷ []) []) + n) (before_by K R L x)
before_next K R e L x apart =
    let D = deletes_by K R in
    let M = inserts_by K L in
    elim (has_op K e.id) as (λ b. visible_before D (cond b (e ∷ M) M) x ≡ option_map (λ n. length (cond (b && not (is_removed D e.id)) (e ∷ []) []) + n) (visible_before D M x)) [
      | true ↦ before_cons D e M x apart
      | false ↦ none_more (visible_before D M x)
    ]

-- nothing is before an element that the past doesn't insert
pub before_none : (K : List (Actor × ℕ)) (R : List (OpId × OpId)) (L : List Insert) (x : OpId) → has_op K x ≡ false → before_by K R L x ≡ None
before_none K R [] x out = refl
before_none K R (e ∷ L) x out = by_test (id_eq e.id x) refl (before_none K R L x out) where
  by_test : (b : Bool) → id_eq e.id x ≡ b → before_by K R L x ≡ None → before_by K R (e ∷ L) x ≡ None
  by_test false apart rest = before_next K R e L x apart ∙ ap (option_map (λ n. length (cond (is_shown K R e) (e ∷ []) []) + n)) rest
  by_test true same rest =
      let hidden : has_op K e.id ≡ false = ap (has_op K) (id_eq-same e.id x same) ∙ out in
      ap (λ b. visible_before (deletes_by K R) (cond b (e ∷ inserts_by K L) (inserts_by K L)) x) hidden ∙ rest

-- as many as are shown of the elements before its index
pub before_index : (K : List (Actor × ℕ)) (R : List (OpId × OpId)) (L : List Insert) (x : OpId) → has_op K x ≡ true → before_by K R L x ≡ option_map (λ k. length (shown_by K R (take k L))) (index_in L x)
before_index K R [] x in_past = refl
before_index K R (e ∷ L) x in_past = by_test (id_eq e.id x) refl (before_index K R L x in_past) where
  at : (b : Bool) → id_eq e.id x ≡ b → index_in (e ∷ L) x ≡ cond b (Some 0) (option_map (λ i. suc i) (index_in L x))
  at b is = position-cons (λ (w : Insert). id_eq w.id x) e L ∙ ap (λ b. cond b (Some 0) (option_map (λ i. suc i) (index_in L x))) is

  one : (b : Bool) (l : List Insert) → length (cond b (e ∷ []) []) + length l ≡ length (cond b (e ∷ l) l)
  one true l = omega arith
  one false l = omega arith

  more : (o : Option ℕ) → option_map (λ n. length (cond (is_shown K R e) (e ∷ []) []) + n) (option_map (λ k. length (shown_by K R (take k L))) o) ≡ option_map (λ k. length (shown_by K R (take k (e ∷ L)))) (option_map (λ i. suc i) o)
  more None = refl
  more (Some k) = ap Some (one (is_shown K R e) (shown_by K R (take k L)) ∙ ap length (sym (shown_first K R e (take k L))))

  by_test : (b : Bool) → id_eq e.id x ≡ b → before_by K R L x ≡ option_map (λ k. length (shown_by K R (take k L))) (index_in L x)
      → before_by K R (e ∷ L) x ≡ option_map (λ k. length (shown_by K R (take k (e ∷ L)))) (index_in (e ∷ L) x)
  by_test false apart rest =
      before_next K R e L x apart ∙ ap (option_map (λ n. length (cond (is_shown K R e) (e ∷ []) []) + n)) rest
      ∙ more (index_in L x) ∙ sym (ap (option_map (λ k. length (shown_by K R (take k (e ∷ L))))) (at false apart))
  by_test true same rest =
      let D = deletes_by K R in
      let M = inserts_by K L in
      let kept : has_op K e.id ≡ true = ap (has_op K) (id_eq-same e.id x same) ∙ in_past in
      let first : visible_before D (e ∷ M) x ≡ Some 0 =
      ap (option_map (λ i. length (visible_of D (take i (e ∷ M))))) (position-cons (λ (w : Insert). id_eq w.id x) e M ∙ ap (λ b. cond b (Some 0) (option_map (λ i. suc i) (position (λ (w : Insert). id_eq w.id x) M))) same) in
      ap (λ b. visible_before D (cond b (e ∷ M) M) x) kept ∙ first ∙ sym (ap (option_map (λ k. length (shown_by K R (take k (e ∷ L))))) (at true same))

-- ---- the element at a place

left_shown : (K : List (Actor × ℕ)) (R : List (OpId × OpId)) (L : List Insert) (k : ℕ) (e : Insert) → k < length L → get_or L k e ≡ e → shown_by K R (drop k L) ≡ cond (is_shown K R e) (e ∷ shown_by K R (drop (k + 1) L)) (shown_by K R (drop (k + 1) L))
left_shown K R L k e lt is =
    ap (shown_by K R) (left_from L k e lt is)
    ∙ shown_first K R e (drop (k + 1) L)

-- the element that is asked for
pub found_here : (K : List (Actor × ℕ)) (R : List (OpId × OpId)) (T : List Stretch) (L : List Insert) (k left at : ℕ) (x : Seen) → AreTargets T K R → Some x ≡ option_map (seen_of R) (slice_get L k)
    → tested K T x ≡ true → left ≡ 0 → slice_get (shown_by K R (drop k L)) left ≡ slice_get (shown_by K R L) at → Some x.id ≡ option_map (λ (e : Insert). e.id) (slice_get (shown_by K R L) at)
found_here K R T L k left at x targets h t none inv =
    let p = seen_at R L k x h in
    ap (λ (y : Seen). Some y.id) p.3
    ∙ ap (λ l. option_map (λ (e : Insert). e.id) (slice_get l 0)) (sym (left_shown K R L k p.0 p.1 p.2 ∙ ap (λ b. cond b (p.0 ∷ shown_by K R (drop (k + 1) L)) (shown_by K R (drop (k + 1) L))) (test_at K R T x p.0 true targets p.3 t)))
    ∙ ap (λ n. option_map (λ (e : Insert). e.id) (slice_get (shown_by K R (drop k L)) n)) (sym none)
    ∙ ap (option_map (λ (e : Insert). e.id)) inv

-- an element that is shown before it
pub found_later : (K : List (Actor × ℕ)) (R : List (OpId × OpId)) (T : List Stretch) (L : List Insert) (k left : ℕ) (x : Seen) → AreTargets T K R → Some x ≡ option_map (seen_of R) (slice_get L k)
    → tested K T x ≡ true → (left ≡ 0 → ⊥) → slice_get (shown_by K R (drop (k + 1) L)) (left - 1) ≡ slice_get (shown_by K R (drop k L)) left
found_later K R T L k left x targets h t some =
    let p = seen_at R L k x h in
    next p.0 (shown_by K R (drop (k + 1) L)) left some
    ∙ ap (λ l. slice_get l left) (sym (left_shown K R L k p.0 p.1 p.2 ∙ ap (λ b. cond b (p.0 ∷ shown_by K R (drop (k + 1) L)) (shown_by K R (drop (k + 1) L))) (test_at K R T x p.0 true targets p.3 t))) where
      next : (e : Insert) (M : List Insert) (n : ℕ) → (n ≡ 0 → ⊥) → slice_get M (n - 1) ≡ slice_get (e ∷ M) n
      next e M zero some = absurd (some refl)
      next e M (suc n) some = let s : suc n - 1 ≡ n = omega arith in ap (slice_get M) s

-- an element that is hidden
pub found_after : (K : List (Actor × ℕ)) (R : List (OpId × OpId)) (T : List Stretch) (L : List Insert) (k left : ℕ) (x : Seen) → AreTargets T K R → Some x ≡ option_map (seen_of R) (slice_get L k)
    → tested K T x ≡ false → slice_get (shown_by K R (drop (k + 1) L)) left ≡ slice_get (shown_by K R (drop k L)) left
found_after K R T L k left x targets h t =
    let p = seen_at R L k x h in
    ap (λ l. slice_get l left) (sym (left_shown K R L k p.0 p.1 p.2 ∙ ap (λ b. cond b (p.0 ∷ shown_by K R (drop (k + 1) L)) (shown_by K R (drop (k + 1) L))) (test_at K R T x p.0 false targets p.3 t)))

-- ---- the end of a walk

-- all are passed
pub shown_all : (K : List (Actor × ℕ)) (R : List (OpId × OpId)) (L : List Insert) (k : ℕ) → None ≡ option_map (seen_of R) (slice_get L k) → shown_by K R (take k L) ≡ shown_by K R L
shown_all K R L k end = ap (shown_by K R) (take_all k L (seen_end R L k end))

-- none is left
none_left : (R : List (OpId × OpId)) (L : List Insert) (k : ℕ) → None ≡ option_map (seen_of R) (slice_get L k) → drop k L ≡ []
none_left R L k end = drop_all k L (seen_end R L k end)

-- so the element that is asked for isn't there
pub found_none : (K : List (Actor × ℕ)) (R : List (OpId × OpId)) (L : List Insert) (k left at : ℕ) → None ≡ option_map (seen_of R) (slice_get L k)
    → slice_get (shown_by K R (drop k L)) left ≡ slice_get (shown_by K R L) at → None ≡ option_map (λ (e : Insert). e.id) (slice_get (shown_by K R L) at)
found_none K R L k left at end inv =
    ap (option_map (λ (e : Insert). e.id)) (sym (ap (λ l. slice_get (shown_by K R l) left) (none_left R L k end)) ∙ inv)
