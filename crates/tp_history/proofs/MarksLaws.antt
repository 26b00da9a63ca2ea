-- Laws of marks, and of the walk back that makes them.
use Rattle.tp_history.proofs.Common.{◌≡◌, ℕ, suc, zero, ◌+◌, ◌-◌, ◌<◌, ◌≤◌, inl, inr, List, [], ◌∷◌, ◌++◌, length, Bool, true, false, ◌||◌, cond, Some, take, drop, get_or, replicate, refl, sym, ap, ◌∙◌, subst, arith, add-one, append_assoc, take_more, take_all, drop_all, length-replicate, get_or_from_slice_get, take-append_seam, slice_get, In, truth, never, not_true, neither_left, neither_right, Hash, same_hash, same_hash-same, same_hash-itself, ChangeParts, hash_of, names, has, is_needed, past, place_from, marks, pick, marked_more, marks_for, marks_of_walk, Sound, HashesOnce, In-slice_get, In-push}
use Rattle.std.proofs.Math.ListN.{set}
use Rattle.std.proofs.lemmas.List.{append-nil}
use Rattle.tp_history.proofs.NamedLaws.{In-has, has-In, names-append, names-In}
use Rattle.tp_history.proofs.PastLaws.{kept, left_out}
use Rattle.tp_history.proofs.PlacesLaws.{place_from-low}
use Rattle.tp_history.proofs.SoundLaws.{sound-induct, DepsFirst}

pub length-marks : (C : List ChangeParts) (H : List Hash) → length (marks C H) ≡ length C
length-marks [] H = refl
length-marks (c ∷ C) H = ap suc (length-marks C H)

-- the marked changes are the past
pub pick-marks : (C : List ChangeParts) (H : List Hash) → pick (marks C H) C ≡ past C H
pick-marks [] H = refl
pick-marks (c ∷ C) H =
    elim (names H c || is_needed (past C H) c) as (λ b. cond b (c ∷ pick (marks C H) C) (pick (marks C H) C) ≡ cond b (c ∷ past C H) (past C H)) [
      | true ↦ ap (λ l. c ∷ l) (pick-marks C H)
      | false ↦ pick-marks C H
    ]

-- ---- no hash twice in a list

pub HashesOnce-push : (C : List ChangeParts) (x : ChangeParts) → HashesOnce C → has C (hash_of x) ≡ false → HashesOnce (C ++ x ∷ [])
HashesOnce-push [] x o e = (refl, tt)
HashesOnce-push (c ∷ C) x o e = (
  not_true (has (C ++ x ∷ []) (hash_of c)) (λ t.
      let w = has-In (C ++ x ∷ []) (hash_of c) t in
      elim (In-push w.0 C x w.1) [
        | inl i ↦ never (In-has C w.0 (hash_of c) i w.2) o.0
        | inr s ↦
            let same : hash_of c ≡ hash_of x = sym w.2 ∙ ap hash_of s in
            never (subst (λ g. same_hash (hash_of c) g ≡ true) same (same_hash-itself (hash_of c))) (neither_left (same_hash (hash_of c) (hash_of x)) (has C (hash_of x)) e)
      ]),
  HashesOnce-push C x o.1 (neither_right (same_hash (hash_of c) (hash_of x)) (has C (hash_of x)) e),
)

pub hashes_once : (C : List ChangeParts) → Sound C → HashesOnce C
hashes_once = sound-induct HashesOnce tt (λ C x s o f. HashesOnce-push C x o f.new)

-- ---- marking more

-- marks on no change
pub marked_more-none : (H : List Hash) (C : List ChangeParts) (bs : List Bool) → length bs ≡ length C → ((c : ChangeParts) → In c C → names H c ≡ false) → marked_more H C bs ≡ bs
marked_more-none H [] bs l f = refl
marked_more-none H (c ∷ C) [] l f = refl
marked_more-none H (c ∷ C) (b ∷ bs) l f =
    let less : length bs ≡ length C = omega arith in
    rw (f c (inl refl)) (ap (λ x. x ∷ marked_more H C bs) (or_nothing b) ∙ ap (λ l. b ∷ l) (marked_more-none H C bs less (λ d i. f d (inr i)))) where
      or_nothing : (b : Bool) → (b || false) ≡ b
      or_nothing b = grind arith

pub marked_more-nil : (C : List ChangeParts) (bs : List Bool) → length bs ≡ length C → marked_more [] C bs ≡ bs
marked_more-nil C bs l = marked_more-none [] C bs l (λ c i. refl)

pub length-marked_more : (H : List Hash) (C : List ChangeParts) (bs : List Bool) → length bs ≡ length C → length (marked_more H C bs) ≡ length C
length-marked_more H [] bs l = l
length-marked_more H (c ∷ C) [] l = l
length-marked_more H (c ∷ C) (b ∷ bs) l =
    let less : length bs ≡ length C = omega arith in
    ap suc (length-marked_more H C bs less)

-- marking by one list and then by another
pub marked_more-twice : (H K : List Hash) (C : List ChangeParts) (bs : List Bool) → marked_more K C (marked_more H C bs) ≡ marked_more (H ++ K) C bs
marked_more-twice H K [] bs = refl
marked_more-twice H K (c ∷ C) [] = refl
marked_more-twice H K (c ∷ C) (b ∷ bs) =
    rw (names-append H K c) (ap (λ x. x ∷ marked_more K C (marked_more H C bs)) (assoc b (names H c) (names K c)) ∙ ap (λ l. (b || (names H c || names K c)) ∷ l) (marked_more-twice H K C bs)) where
      assoc : (a b c : Bool) → ((a || b) || c) ≡ (a || (b || c))
      assoc a b c = grind arith

-- the mark of a hash that is not the first change's
mark_later : (n : ℕ) (C : List ChangeParts) (bs : List Bool) (h : Hash) (b : Bool) (i : ℕ) → Some (n + i) ≡ place_from (n + 1) C h → {m : Bool} → m ≡ false
    → ((j : ℕ) → Some (n + 1 + j) ≡ place_from (n + 1) C h → marked_more (h ∷ []) C bs ≡ set bs j true)
    → ((b || (m || false)) ∷ marked_more (h ∷ []) C bs) ≡ set (b ∷ bs) i true
mark_later n C bs h b zero there miss ih = let low : n + 1 ≤ n + 0 = place_from-low (n + 1) C h (n + 0) there in absurd (omega arith)
mark_later n C bs h b (suc j) there miss ih =
    let step : n + suc j ≡ n + 1 + j = omega arith in
    rw miss (ap (λ x. x ∷ marked_more (h ∷ []) C bs) (nothing b) ∙ ap (λ l. b ∷ l) (ih j (ap Some (sym step) ∙ there))) where
      nothing : (b : Bool) → (b || (false || false)) ≡ b
      nothing b = grind arith

-- the mark of one hash is at its place
mark_at : (n : ℕ) (C : List ChangeParts) (bs : List Bool) (h : Hash) (i : ℕ) → HashesOnce C → length bs ≡ length C → Some (n + i) ≡ place_from n C h → marked_more (h ∷ []) C bs ≡ set bs i true
mark_at n [] bs h i o l e = cc
mark_at n (c ∷ C) [] h i o l e = cc
mark_at n (c ∷ C) (b ∷ bs) h i o l e =
    let less : length bs ≡ length C = omega arith in
    elim (truth (same_hash (hash_of c) h)) [
      | inl s ↦
          let same : hash_of c ≡ h = same_hash-same (hash_of c) h s in
          let here : Some (n + i) ≡ Some n = e ∙ ap (λ t. cond t (Some n) (place_from (n + 1) C h)) s in
          let first : n + i ≡ n = cc in
          let at : i ≡ 0 = omega arith in
          let hit : same_hash h (hash_of c) ≡ true = subst (λ g. same_hash h g ≡ true) (sym same) (same_hash-itself h) in
          let rest : marked_more (h ∷ []) C bs ≡ bs =
          marked_more-none (h ∷ []) C bs less
          (λ d j. not_true (names (h ∷ []) d)
          (λ t. never (In-has C d (hash_of c) j (other h d t ∙ sym same)) o.0)) in
          rw (at, hit, rest) (ap (λ x. x ∷ bs) (yes b))
      | inr s ↦
          let there : Some (n + i) ≡ place_from (n + 1) C h = e ∙ ap (λ t. cond t (Some n) (place_from (n + 1) C h)) s in
          let miss : same_hash h (hash_of c) ≡ false =
          not_true (same_hash h (hash_of c)) (λ t. never (subst (λ g. same_hash (hash_of c) g ≡ true) (sym (same_hash-same h (hash_of c) t)) (same_hash-itself (hash_of c))) s) in
          mark_later n C bs h b i there miss (λ j t. mark_at (n + 1) C bs h j o.1 less t)
    ] where
      yes : (b : Bool) → (b || (true || false)) ≡ true
      yes b = grind arith

      other : (h : Hash) (d : ChangeParts) → names (h ∷ []) d ≡ true → hash_of d ≡ h
      other h d t = elim (names-In (h ∷ []) d t) [ inl s ↦ s | inr z ↦ absurd z ]

pub set_is_marked_more : (C : List ChangeParts) (bs : List Bool) (h : Hash) (i : ℕ) → HashesOnce C → length bs ≡ length C → Some i ≡ place_from 0 C h → marked_more (h ∷ []) C bs ≡ set bs i true
set_is_marked_more C bs h i o l e = let at : i ≡ 0 + i = omega arith in mark_at 0 C bs h i o l (ap Some (sym at) ∙ e)

-- a hash that isn't there marks nothing
pub marked_more-unknown : (C : List ChangeParts) (bs : List Bool) (h : Hash) → length bs ≡ length C → has C h ≡ false → marked_more (h ∷ []) C bs ≡ bs
marked_more-unknown C bs h l e =
    marked_more-none (h ∷ []) C bs l
    (λ c i. not_true (names (h ∷ []) c)
    (λ t. never (elim (names-In (h ∷ []) c t) [ inl s ↦ In-has C c h i s | inr z ↦ absurd z ]) e))

-- the step over one more hash
pub marked_more-step : (H : List Hash) (i : ℕ) (d : Hash) (C : List ChangeParts) (bs cs ds : List Bool)
    → i < length H → cs ≡ marked_more (take i H) C bs → ds ≡ marked_more (get_or H i d ∷ []) C cs → ds ≡ marked_more (take (i + 1) H) C bs
marked_more-step H i d C bs cs ds small e f =
    f ∙ ap (marked_more (get_or H i d ∷ []) C) e ∙ marked_more-twice (take i H) (get_or H i d ∷ []) C bs
    ∙ ap (λ l. marked_more l C bs) (sym (take_more H i d small))

-- ---- the walk back

pub length-marks_for : (A K : List ChangeParts) (H : List Hash) → length (marks_for A K H) ≡ length A
length-marks_for [] K H = refl
length-marks_for (c ∷ A) K H = ap suc (length-marks_for A K H)

pub marked_more-append : (D : List Hash) (A B : List ChangeParts) (xs bs : List Bool) → length xs ≡ length A → marked_more D (A ++ B) (xs ++ bs) ≡ marked_more D A xs ++ marked_more D B bs
marked_more-append D [] B [] bs l = refl
marked_more-append D [] B (a ∷ xs) bs l = absurd (omega arith)
marked_more-append D (c ∷ A) B [] bs l = absurd (omega arith)
marked_more-append D (c ∷ A) B (a ∷ xs) bs l =
    let less : length xs ≡ length A = omega arith in
    ap (λ t. (a || names D c) ∷ t) (marked_more-append D A B xs bs less)

-- marks by one more change that depends on what is before
marks_for-more : (c : ChangeParts) (A K : List ChangeParts) (H : List Hash) → marked_more c.deps A (marks_for A K H) ≡ marks_for A (c ∷ K) H
marks_for-more c [] K H = refl
marks_for-more c (x ∷ A) K H = ap (λ b. b ∷ marked_more c.deps A (marks_for A K H)) (turn (names H x) (is_needed K x) (names c.deps x)) ∙ ap (λ l. (names H x || (names c.deps x || is_needed K x)) ∷ l) (marks_for-more c A K H) where
  turn : (a b d : Bool) → ((a || b) || d) ≡ (a || (d || b))
  turn a b d = grind arith

marks_for-append : (A B K : List ChangeParts) (H : List Hash) → marks_for (A ++ B) K H ≡ marks_for A K H ++ marks_for B K H
marks_for-append [] B K H = refl
marks_for-append (c ∷ A) B K H = ap (λ l. (names H c || is_needed K c) ∷ l) (marks_for-append A B K H)

-- what the walk has before it looks at c, with c's mark separate
pub before_look : (A : List ChangeParts) (c : ChangeParts) (D : List ChangeParts) (H : List Hash)
    → marks_for (A ++ c ∷ []) (past D H) H ++ marks D H ≡ marks_for A (past D H) H ++ marks (c ∷ D) H
before_look A c D H =
    ap (λ l. l ++ marks D H) (marks_for-append A (c ∷ []) (past D H) H)
    ∙ append_assoc (marks_for A (past D H) H) ((names H c || is_needed (past D H) c) ∷ []) (marks D H)

-- a change that isn't marked leaves the marks
pub pass_by : (A : List ChangeParts) (c : ChangeParts) (D : List ChangeParts) (H : List Hash) → (names H c || is_needed (past D H) c) ≡ false
    → marks_for (A ++ c ∷ []) (past D H) H ++ marks D H ≡ marks_for A (past (c ∷ D) H) H ++ marks (c ∷ D) H
pass_by A c D H e = before_look A c D H ∙ ap (λ K. marks_for A K H ++ marks (c ∷ D) H) (sym (left_out H c (past D H) e))

apart_after : (A : List ChangeParts) (c : ChangeParts) (D : List ChangeParts) → DepsFirst (A ++ c ∷ D) → (d : ChangeParts) → In d (c ∷ D) → names c.deps d ≡ false
apart_after [] c D o d i = o.0 d i
apart_after (a ∷ A) c D o d i = apart_after A c D o.1 d i

-- a change that is marked marks those that it depends on
pub follow_on : (A : List ChangeParts) (c : ChangeParts) (D : List ChangeParts) (H : List Hash) → DepsFirst (A ++ c ∷ D) → (names H c || is_needed (past D H) c) ≡ true
    → marked_more c.deps (A ++ c ∷ D) (marks_for (A ++ c ∷ []) (past D H) H ++ marks D H) ≡ marks_for A (past (c ∷ D) H) H ++ marks (c ∷ D) H
follow_on A c D H o e =
    ap (marked_more c.deps (A ++ c ∷ D)) (before_look A c D H)
    ∙ marked_more-append c.deps A (c ∷ D) (marks_for A (past D H) H) (marks (c ∷ D) H) (length-marks_for A (past D H) H)
    ∙ ap (λ l. l ++ marked_more c.deps (c ∷ D) (marks (c ∷ D) H)) (marks_for-more c A (past D H) H)
    ∙ ap (λ l. marks_for A (c ∷ past D H) H ++ l) (marked_more-none c.deps (c ∷ D) (marks (c ∷ D) H) (length-marks (c ∷ D) H) (apart_after A c D o))
    ∙ ap (λ K. marks_for A K H ++ marks (c ∷ D) H) (sym (kept H c (past D H) e))

-- ---- the same by places

pub split_at : (C : List ChangeParts) (m : ℕ) (c : ChangeParts) → slice_get C m ≡ Some c → (A : List ChangeParts) × (D : List ChangeParts) × (C ≡ A ++ c ∷ D) × (take m C ≡ A) × (take (suc m) C ≡ A ++ c ∷ []) × (drop m C ≡ c ∷ D) × (drop (suc m) C ≡ D)
split_at [] m c e = cc
split_at (x ∷ C) zero c e = let s : x ≡ c = cc in rw s ([], C, refl, refl, refl, refl, refl)
split_at (x ∷ C) (suc m) c e =
    let w = split_at C m c e in
    (x ∷ w.0, w.1, ap (λ l. x ∷ l) w.2, ap (λ l. x ∷ l) w.3, ap (λ l. x ∷ l) w.4, w.5, w.6)

-- the mark at the place that the walk looks at
pub marks_of_walk-at : (C : List ChangeParts) (H : List Hash) (m : ℕ) (c : ChangeParts) → slice_get C m ≡ Some c → slice_get (marks_of_walk C H (m + 1)) m ≡ Some (names H c || is_needed (past (drop (m + 1) C) H) c)
marks_of_walk-at C H m c e = rw add-one (seen C m c e (past (drop (suc m) C) H) (marks (drop (suc m) C) H)) where
  seen : (C : List ChangeParts) (m : ℕ) (c : ChangeParts) → slice_get C m ≡ Some c → (K : List ChangeParts) (bs : List Bool) → slice_get (marks_for (take (suc m) C) K H ++ bs) m ≡ Some (names H c || is_needed K c)
  seen [] m c e K bs = cc
  seen (x ∷ C) zero c e K bs = let s : x ≡ c = cc in rw s refl
  seen (x ∷ C) (suc m) c e K bs = seen C m c e K bs

-- one step of the walk back
pub walk_by : (C : List ChangeParts) (H : List Hash) (m : ℕ) (c : ChangeParts) → slice_get C m ≡ Some c → (names H c || is_needed (past (drop (m + 1) C) H) c) ≡ false → marks_of_walk C H (m + 1) ≡ marks_of_walk C H m
walk_by C H m c e f =
    let w = split_at C m c e in
    let g : (names H c || is_needed (past w.1 H) c) ≡ false = subst (λ l. (names H c || is_needed (past l H) c) ≡ false) w.6 (subst (λ k. (names H c || is_needed (past (drop k C) H) c) ≡ false) (add-one m) f) in
    rw (add-one, w.4, w.6, w.3, w.5) (pass_by w.0 c w.1 H g)

pub walk_on : (C : List ChangeParts) (H : List Hash) (m : ℕ) (c : ChangeParts) → DepsFirst C → slice_get C m ≡ Some c → (names H c || is_needed (past (drop (m + 1) C) H) c) ≡ true → marked_more c.deps C (marks_of_walk C H (m + 1)) ≡ marks_of_walk C H m
walk_on C H m c o e f =
    let w = split_at C m c e in
    let g : (names H c || is_needed (past w.1 H) c) ≡ true = subst (λ l. (names H c || is_needed (past l H) c) ≡ true) w.6 (subst (λ k. (names H c || is_needed (past (drop k C) H) c) ≡ true) (add-one m) f) in
    rw (add-one, w.4, w.6, w.3, w.5) (subst (λ l. marked_more c.deps l (marks_for (w.0 ++ c ∷ []) (past w.1 H) H ++ marks w.1 H) ≡ marks_for w.0 (past (c ∷ w.1) H) H ++ marks (c ∷ w.1) H) (sym w.2) (follow_on w.0 c w.1 H (subst DepsFirst w.2 o) g))

-- the mark that is read is the one that the walk looks at
mark_read : (C : List ChangeParts) (H : List Hash) (m : ℕ) (c : ChangeParts) (bs : List Bool) (b : Bool) → slice_get C m ≡ Some c → bs ≡ marks_of_walk C H (m + 1) → get_or bs m false ≡ b
    → (names H c || is_needed (past (drop (m + 1) C) H) c) ≡ b
mark_read C H m c bs b e w r =
    sym (get_or_from_slice_get bs m (names H c || is_needed (past (drop (m + 1) C) H) c) false (ap (λ l. slice_get l m) w ∙ marks_of_walk-at C H m c e)) ∙ r

pub followed : (C : List ChangeParts) (H : List Hash) (m : ℕ) (c : ChangeParts) (bs ds : List Bool)
    → DepsFirst C → slice_get C m ≡ Some c → bs ≡ marks_of_walk C H (m + 1) → get_or bs m false ≡ true → ds ≡ marked_more c.deps C bs → ds ≡ marks_of_walk C H m
followed C H m c bs ds o e w r f = f ∙ ap (marked_more c.deps C) w ∙ walk_on C H m c o e (mark_read C H m c bs true e w r)

pub passed_by : (C : List ChangeParts) (H : List Hash) (m : ℕ) (c : ChangeParts) (bs : List Bool) → slice_get C m ≡ Some c → bs ≡ marks_of_walk C H (m + 1) → get_or bs m false ≡ false → bs ≡ marks_of_walk C H m
passed_by C H m c bs e w r = w ∙ walk_by C H m c e (mark_read C H m c bs false e w r)

-- at the end of the list the walk has the marks of the hashes alone
pub marks_of_walk-start : (C : List ChangeParts) (H : List Hash) (bs : List Bool) → bs ≡ marked_more H C (replicate (length C) false) → bs ≡ marks_of_walk C H (length C)
marks_of_walk-start C H bs e = e ∙ first C ∙ ends C where
  first : (D : List ChangeParts) → marked_more H D (replicate (length D) false) ≡ marks_for D [] H
  first [] = refl
  first (c ∷ D) = ap (λ b. b ∷ marked_more H D (replicate (length D) false)) (turn (names H c)) ∙ ap (λ l. (names H c || false) ∷ l) (first D) where
    turn : (b : Bool) → (false || b) ≡ (b || false)
    turn b = grind arith

  ends : (D : List ChangeParts) → marks_for D [] H ≡ marks_of_walk D H (length D)
  ends D =
      let whole : take (length D) D ≡ D = take_all (length D) D (omega arith) in
      let rest : drop (length D) D ≡ [] = drop_all (length D) D (omega arith) in
      rw (whole, rest) (sym (append-nil (marks_for D [] H)))

-- a slice of a whole vector, written back
pub written_back : {X : Type 0} (xs ys : List X) (n : ℕ) → length xs ≡ length ys → n ≡ length ys → take n (xs ++ drop (length xs) ys) ≡ xs
written_back xs ys n e f = rw (f ∙ sym e) (take-append_seam xs (drop (length xs) ys))

-- the start of the walk, in a vector
pub walk_starts : (C : List ChangeParts) (H : List Hash) (xs ys : List Bool) (n : ℕ) → n ≡ length ys → ys ≡ replicate (length C) false → xs ≡ marked_more H C ys
    → (take n (xs ++ drop (length xs) ys) ≡ marks_of_walk C H (length C - 0)) × (length (take n (xs ++ drop (length xs) ys)) ≡ length C)
walk_starts C H xs ys n e f g =
    let long : length ys ≡ length C = ap length f ∙ length-replicate (length C) false in
    let whole : length xs ≡ length C = ap length g ∙ length-marked_more H C ys long in
    let back : take n (xs ++ drop (length xs) ys) ≡ xs = written_back xs ys n (whole ∙ sym long) e in
    let none : length C ≡ length C - 0 = omega arith in
    (back ∙ marks_of_walk-start C H xs (g ∙ ap (marked_more H C) f) ∙ ap (marks_of_walk C H) none, ap length back ∙ whole)

-- ---- the changes that are marked, by place

pub pick-In : (bs : List Bool) (C : List ChangeParts) (c : ChangeParts) → In c (pick bs C) → In c C
pick-In [] C c i = absurd i
pick-In (b ∷ bs) [] c i = absurd i
pick-In (true ∷ bs) (d ∷ C) c (inl e) = inl e
pick-In (true ∷ bs) (d ∷ C) c (inr i) = inr (pick-In bs C c i)
pick-In (false ∷ bs) (d ∷ C) c i = inr (pick-In bs C c i)

pub pick-marked : (bs : List Bool) (C : List ChangeParts) (p : ℕ) (c : ChangeParts) → slice_get C p ≡ Some c → get_or bs p false ≡ true → In c (pick bs C)
pick-marked [] C zero c e t = cc
pick-marked [] C (suc p) c e t = cc
pick-marked (b ∷ bs) [] p c e t = cc
pick-marked (true ∷ bs) (d ∷ C) zero c e t = let s : d ≡ c = cc in inl (sym s)
pick-marked (false ∷ bs) (d ∷ C) zero c e t = cc
pick-marked (true ∷ bs) (d ∷ C) (suc p) c e t = inr (pick-marked bs C p c e t)
pick-marked (false ∷ bs) (d ∷ C) (suc p) c e t = pick-marked bs C p c e t

pub marked-pick : (bs : List Bool) (C : List ChangeParts) (p : ℕ) (c : ChangeParts) → HashesOnce C → slice_get C p ≡ Some c → In c (pick bs C) → get_or bs p false ≡ true
marked-pick [] C p c o e i = absurd i
marked-pick (b ∷ bs) [] p c o e i = absurd i
marked-pick (true ∷ bs) (d ∷ C) zero c o e i = refl
marked-pick (false ∷ bs) (d ∷ C) zero c o e i =
    let s : d ≡ c = cc in never (In-has C c (hash_of d) (pick-In bs C c i) (ap hash_of (sym s))) o.0
marked-pick (true ∷ bs) (d ∷ C) (suc p) c o e (inl s) = never (In-has C c (hash_of d) (In-slice_get C p c e) (ap hash_of s)) o.0
marked-pick (true ∷ bs) (d ∷ C) (suc p) c o e (inr i) = marked-pick bs C p c o.1 e i
marked-pick (false ∷ bs) (d ∷ C) (suc p) c o e i = marked-pick bs C p c o.1 e i
