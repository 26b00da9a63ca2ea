-- Laws on a list that is cut into blocks.
use Rattle.tp_list.proofs.Members.{In-left, In-right}
use Rattle.std.proofs.Common.{◌≡◌, ◌⊎◌, inl, inr, ℕ, zero, suc, ◌+◌, ◌-◌, ◌*◌, ◌<◌, ◌≤◌, List, [], ◌∷◌, ◌++◌, length, take, drop, get_or, insert, set, map, refl, sym, ap, ◌∙◌, subst, arith, append_assoc, length-append, zero-add}
use Rattle.std.proofs.lemmas.List.{map-append, length-take, length-drop}
use Rattle.std.proofs.lemmas.List.Edits.{insert-append_left, insert-append_right}
use Rattle.tp_list.specs.Members.{In}
use Rattle.tp_posindex.specs.Layout.{concat_blocks, block_at, index_at, IsGap, AreSized}

-- ---- joining

-- a map of each block's elements
pub concat_blocks-map : {X Y : Type 0} (f : X → Y) (bs : List (List X)) → concat_blocks (map (map f) bs) ≡ map f (concat_blocks bs)
concat_blocks-map f [] = refl
concat_blocks-map f (b ∷ bs) = ap (λ z. map f b ++ z) (concat_blocks-map f bs) ∙ sym (map-append f b (concat_blocks bs))

-- a member of a block is a member of all
pub In-concat_blocks : {X : Type 0} (x : X) (b : List X) (bs : List (List X)) → In b bs → In x b → In x (concat_blocks bs)
In-concat_blocks x b [] h i = absurd h
In-concat_blocks x b (a ∷ bs) (inl e) i = In-left x a (concat_blocks bs) (subst (In x) e i)
In-concat_blocks x b (a ∷ bs) (inr j) i = In-right x a (concat_blocks bs) (In-concat_blocks x b bs j i)

-- a block is one of the blocks
pub In-block : {X : Type 0} (bs : List (List X)) (p : ℕ) → p < length bs → In (block_at bs p) bs
In-block [] p lt = absurd (omega arith)
In-block (b ∷ bs) zero lt = inl refl
In-block (b ∷ bs) (suc p) lt = inr (In-block bs p (omega arith))

-- how many are before the next block
pub index_at-next : {X : Type 0} (bs : List (List X)) (p : ℕ) → p < length bs → index_at bs (suc p) 0 ≡ index_at bs p (length (block_at bs p))
index_at-next [] p lt = absurd (omega arith)
index_at-next (b ∷ bs) zero lt = ap (λ n. n + 0) (length-append b []) ∙ omega arith
index_at-next (b ∷ bs) (suc p) lt =
    let rest = index_at-next bs p (omega arith) in
    let l = length-append b (concat_blocks (take (suc p) bs)) in
    let r = length-append b (concat_blocks (take p bs)) in
    omega arith

-- after the last block
pub index_at-end : {X : Type 0} (bs : List (List X)) → index_at bs (length bs) 0 ≡ length (concat_blocks bs)
index_at-end [] = refl
index_at-end (b ∷ bs) =
    let rest = index_at-end bs in
    let l = length-append b (concat_blocks (take (length bs) bs)) in
    let r = length-append b (concat_blocks bs) in
    omega arith

-- a place in a block is a place in all
pub index_at-within : {X : Type 0} (bs : List (List X)) (p offset : ℕ) → p < length bs → offset ≤ length (block_at bs p) → index_at bs p offset ≤ length (concat_blocks bs)
index_at-within [] p offset lt le = absurd (omega arith)
index_at-within (b ∷ bs) zero offset lt le = let l = length-append b (concat_blocks bs) in omega arith
index_at-within (b ∷ bs) (suc p) offset lt le =
    let rest = index_at-within bs p offset (omega arith) le in
    let l = length-append b (concat_blocks (take p bs)) in
    let r = length-append b (concat_blocks bs) in
    omega arith

-- a place before a block's end is before the end of all
pub index_at-before : {X : Type 0} (bs : List (List X)) (p offset : ℕ) → p < length bs → offset < length (block_at bs p) → index_at bs p offset < length (concat_blocks bs)
index_at-before [] p offset lt le = absurd (omega arith)
index_at-before (b ∷ bs) zero offset lt le = let l = length-append b (concat_blocks bs) in omega arith
index_at-before (b ∷ bs) (suc p) offset lt le =
    let rest = index_at-before bs p offset (omega arith) le in
    let l = length-append b (concat_blocks (take p bs)) in
    let r = length-append b (concat_blocks bs) in
    omega arith

-- the whole begins with what is before a block, and then the block's prefix
pub take-concat_blocks : {X : Type 0} (bs : List (List X)) (p offset : ℕ) → p < length bs → offset ≤ length (block_at bs p) → take (index_at bs p offset) (concat_blocks bs) ≡ concat_blocks (take p bs) ++ take offset (block_at bs p)
take-concat_blocks [] p offset lt le = absurd (omega arith)
take-concat_blocks (b ∷ bs) zero offset lt le =
    ap (λ n. take n (b ++ concat_blocks bs)) (zero-add offset) ∙ take_prefix offset b (concat_blocks bs) le
  where
    take_prefix : {X : Type 0} (n : ℕ) (xs ys : List X) → n ≤ length xs → take n (xs ++ ys) ≡ take n xs
    take_prefix zero xs ys h = refl
    take_prefix (suc n) [] ys h = absurd (omega arith)
    take_prefix (suc n) (x ∷ xs) ys h = ap (λ z. x ∷ z) (take_prefix n xs ys (omega arith))
take-concat_blocks (b ∷ bs) (suc p) offset lt le =
    let l = length-append b (concat_blocks (take p bs)) in
    let at : index_at (b ∷ bs) (suc p) offset ≡ length b + index_at bs p offset = omega arith in
    ap (λ n. take n (b ++ concat_blocks bs)) at ∙ take_after (index_at bs p offset) b (concat_blocks bs) ∙ ap (λ z. b ++ z) (take-concat_blocks bs p offset (omega arith) le) ∙ sym (append_assoc b (concat_blocks (take p bs)) (take offset (block_at bs p)))
  where
    take_after : {X : Type 0} (n : ℕ) (xs ys : List X) → take (length xs + n) (xs ++ ys) ≡ xs ++ take n ys
    take_after n [] ys = ap (λ m. take m ys) (zero-add n)
    take_after n (x ∷ xs) ys = (let e : suc (length xs) + n ≡ suc (length xs + n) = omega arith in ap (λ m. take m (x ∷ (xs ++ ys))) e) ∙ ap (λ z. x ∷ z) (take_after n xs ys)

-- what is at an offset of a block is at its place
pub get_or-concat_blocks : {X : Type 0} (bs : List (List X)) (p offset : ℕ) (d : X) → p < length bs → offset < length (block_at bs p) → get_or (concat_blocks bs) (index_at bs p offset) d ≡ get_or (block_at bs p) offset d
get_or-concat_blocks [] p offset d lt le = absurd (omega arith)
get_or-concat_blocks (b ∷ bs) zero offset d lt le =
    ap (λ n. get_or (b ++ concat_blocks bs) n d) (zero-add offset) ∙ prefix b (concat_blocks bs) offset d le
  where
    prefix : {X : Type 0} (xs ys : List X) (n : ℕ) (d : X) → n < length xs → get_or (xs ++ ys) n d ≡ get_or xs n d
    prefix [] ys n d h = absurd (omega arith)
    prefix (x ∷ xs) ys zero d h = refl
    prefix (x ∷ xs) ys (suc n) d h = prefix xs ys n d (omega arith)
get_or-concat_blocks (b ∷ bs) (suc p) offset d lt le =
    let l = length-append b (concat_blocks (take p bs)) in
    let at : index_at (b ∷ bs) (suc p) offset ≡ length b + index_at bs p offset = omega arith in
    ap (λ n. get_or (b ++ concat_blocks bs) n d) at ∙ beyond b (concat_blocks bs) (index_at bs p offset) d ∙ get_or-concat_blocks bs p offset d (omega arith) le
  where
    beyond : {X : Type 0} (xs ys : List X) (n : ℕ) (d : X) → get_or (xs ++ ys) (length xs + n) d ≡ get_or ys n d
    beyond [] ys n d = ap (λ m. get_or ys m d) (zero-add n)
    beyond (x ∷ xs) ys n d = (let e : suc (length xs) + n ≡ suc (length xs + n) = omega arith in ap (λ m. get_or (x ∷ (xs ++ ys)) m d) e) ∙ beyond xs ys n d

-- ---- an insert and a split

-- an insert at an offset of a block is an insert at its place
pub insert-concat_blocks : {X : Type 0} (bs : List (List X)) (p offset : ℕ) (x : X) → p < length bs → offset ≤ length (block_at bs p) → concat_blocks (set bs p (insert (block_at bs p) offset x)) ≡ insert (concat_blocks bs) (index_at bs p offset) x
insert-concat_blocks [] p offset x lt le = absurd (omega arith)
insert-concat_blocks (b ∷ bs) zero offset x lt le =
    sym (ap (λ n. insert (b ++ concat_blocks bs) n x) (zero-add offset) ∙ insert-append_left b (concat_blocks bs) offset x le)
insert-concat_blocks (b ∷ bs) (suc p) offset x lt le =
    let l = length-append b (concat_blocks (take p bs)) in
    let at : index_at (b ∷ bs) (suc p) offset - length b ≡ index_at bs p offset = omega arith in
    ap (λ z. b ++ z) (insert-concat_blocks bs p offset x (omega arith) le)
    ∙ sym (insert-append_right b (concat_blocks bs) (length b) (index_at (b ∷ bs) (suc p) offset) x refl (omega arith)
    ∙ ap (λ n. b ++ insert (concat_blocks bs) n x) at)

-- the blocks with one cut in two
abbrev pub cut_at : {X : Type 0} → List (List X) → ℕ → ℕ → List (List X)
cut_at bs p n = insert (set bs p (take n (block_at bs p))) (suc p) (drop n (block_at bs p))

-- a cut keeps the whole
pub concat_blocks-cut : {X : Type 0} (bs : List (List X)) (p n : ℕ) → p < length bs → concat_blocks (cut_at bs p n) ≡ concat_blocks bs
concat_blocks-cut [] p n lt = absurd (omega arith)
concat_blocks-cut (b ∷ bs) zero n lt = sym (append_assoc (take n b) (drop n b) (concat_blocks bs)) ∙ ap (λ z. z ++ concat_blocks bs) (parts n b)
  where
    parts : {X : Type 0} (n : ℕ) (xs : List X) → take n xs ++ drop n xs ≡ xs
    parts zero xs = refl
    parts (suc n) [] = refl
    parts (suc n) (x ∷ xs) = ap (λ z. x ∷ z) (parts n xs)
concat_blocks-cut (b ∷ bs) (suc p) n lt = ap (λ z. b ++ z) (concat_blocks-cut bs p n (omega arith))

-- a cut makes one block more
pub length-cut : {X : Type 0} (bs : List (List X)) (p n : ℕ) → p < length bs → length (cut_at bs p n) ≡ suc (length bs)
length-cut [] p n lt = absurd (omega arith)
length-cut (b ∷ bs) zero n lt = refl
length-cut (b ∷ bs) (suc p) n lt = ap suc (length-cut bs p n (omega arith))

-- the prefix of the block that was cut, and what was after the cut
pub block_at-cut : {X : Type 0} (bs : List (List X)) (p n : ℕ) → p < length bs → (block_at (cut_at bs p n) p ≡ take n (block_at bs p)) × (block_at (cut_at bs p n) (suc p) ≡ drop n (block_at bs p))
block_at-cut [] p n lt = absurd (omega arith)
block_at-cut (b ∷ bs) zero n lt = (refl, refl)
block_at-cut (b ∷ bs) (suc p) n lt = block_at-cut bs p n (omega arith)

-- the spots in the prefix are as before
pub index_at-prefix : {X : Type 0} (bs : List (List X)) (p n offset : ℕ) → p < length bs → index_at (cut_at bs p n) p offset ≡ index_at bs p offset
index_at-prefix [] p n offset lt = absurd (omega arith)
index_at-prefix (b ∷ bs) zero n offset lt = refl
index_at-prefix (b ∷ bs) (suc p) n offset lt =
    let rest = index_at-prefix bs p n offset (omega arith) in
    let l = length-append b (concat_blocks (take p (cut_at bs p n))) in
    let r = length-append b (concat_blocks (take p bs)) in
    omega arith

-- the spots after the cut are as before
pub index_at-back : {X : Type 0} (bs : List (List X)) (p n offset : ℕ) → p < length bs → n ≤ length (block_at bs p) → index_at (cut_at bs p n) (suc p) offset ≡ index_at bs p (n + offset)
index_at-back [] p n offset lt le = absurd (omega arith)
index_at-back (b ∷ bs) zero n offset lt le =
    let l = length-append (take n b) [] in
    let s = length-prefix n b le in
    omega arith
  where
    length-prefix : {X : Type 0} (n : ℕ) (xs : List X) → n ≤ length xs → length (take n xs) ≡ n
    length-prefix zero xs h = refl
    length-prefix (suc n) [] h = absurd (omega arith)
    length-prefix (suc n) (x ∷ xs) h = ap suc (length-prefix n xs (omega arith))
index_at-back (b ∷ bs) (suc p) n offset lt le =
    let rest = index_at-back bs p n offset (omega arith) le in
    let l = length-append b (concat_blocks (take (suc p) (cut_at bs p n))) in
    let r = length-append b (concat_blocks (take p bs)) in
    omega arith

-- a member of the blocks with one replaced is the new block, or one of several
pub In-set : {X : Type 0} (bs : List X) (p : ℕ) (v x : X) → p < length bs → In x (set bs p v) → (x ≡ v) ⊎ (In x bs × (1 < length bs))
In-set [] p v x lt i = absurd (omega arith)
In-set (b ∷ bs) zero v x lt (inl e) = inl e
In-set (b ∷ []) zero v x lt (inr i) = absurd i
In-set (b ∷ c ∷ bs) zero v x lt (inr i) = inr (inr i, omega arith)
In-set (b ∷ bs) (suc p) v x lt (inl e) = inr (inl e, omega arith)
In-set (b ∷ bs) (suc p) v x lt (inr i) =
    elim (In-set bs p v x (omega arith) i) as (λ _. (x ≡ v) ⊎ (In x (b ∷ bs) × (1 < suc (length bs)))) [
      | inl e ↦ inl e
      | inr j ↦ inr (inr j.0, omega (arith, j.1))
    ]

-- a member stays in one of the two parts
pub In-parts : {X : Type 0} (n : ℕ) (xs : List X) (x : X) → In x xs → In x (take n xs) ⊎ In x (drop n xs)
In-parts zero xs x i = inr i
In-parts (suc n) [] x i = absurd i
In-parts (suc n) (y ∷ xs) x (inl e) = inl (inl e)
In-parts (suc n) (y ∷ xs) x (inr i) =
    elim (In-parts n xs x i) as (λ _. In x (y ∷ take n xs) ⊎ In x (drop n xs)) [ inl j ↦ inl (inr j) | inr j ↦ inr j ]

-- a member of what is after a cut is one of the whole
pub In-drop : {X : Type 0} (n : ℕ) (xs : List X) (x : X) → In x (drop n xs) → In x xs
In-drop zero xs x i = i
In-drop (suc n) [] x i = i
In-drop (suc n) (y ∷ xs) x i = inr (In-drop n xs x i)

-- more than there are blocks
pub length-concat_blocks : {X : Type 0} (bs : List (List X)) → ((b : List X) → In b bs → 1 ≤ length b) → length bs ≤ length (concat_blocks bs)
length-concat_blocks [] some = omega arith
length-concat_blocks (b ∷ bs) some =
    let rest = length-concat_blocks bs (λ c i. some c (inr i)) in
    let here = some b (inl refl) in
    let l = length-append b (concat_blocks bs) in
    omega arith

-- blocks of 64 at least
pub length-halves : {X : Type 0} (bs : List (List X)) → ((b : List X) → In b bs → 64 ≤ length b) → 64 * length bs ≤ length (concat_blocks bs)
length-halves [] some = omega arith
length-halves (b ∷ bs) some =
    let rest = length-halves bs (λ c i. some c (inr i)) in
    let here = some b (inl refl) in
    let l = length-append b (concat_blocks bs) in
    omega arith

-- where there are blocks, a gap is in one of them
pub gap_block : {X : Type 0} (bs : List (List X)) (p offset : ℕ) → IsGap bs p offset → 0 < length bs → p < length bs
gap_block bs p offset gap some = elim gap.block as (λ _. p < length bs) [ inl lt ↦ lt | inr none ↦ absurd (let e = ap length none in omega arith) ]

-- where one block is full, there are 64 for each block
pub many_each : {X : Type 0} (bs : List (List X)) (p : ℕ) → AreSized bs → p < length bs → length (block_at bs p) ≡ 128 → 64 * length bs ≤ length (concat_blocks bs)
many_each [] p sized lt full = absurd (omega arith)
many_each (b ∷ []) p sized lt full = (let within = index_at-within (b ∷ []) p 128 lt (omega arith) in omega arith)
many_each (b ∷ c ∷ bs) p sized lt full = length-halves (b ∷ c ∷ bs) (sized.half (omega arith))

-- ---- a full block that is split

-- A full block was split into two of 64: it is among the blocks, which are cut there, and there is one more.
pub record IsHalved {X : Type 0} (bs new : List (List X)) (p : ℕ) : Type 0 where
  pub within : p < length bs
  pub full : length (block_at bs p) ≡ 128
  pub cut : new ≡ cut_at bs p 64
  pub more : length new ≡ suc (length bs)
  pub front : length (block_at new p) ≡ 64
  pub back : length (block_at new (p + 1)) ≡ 64

-- the split of a full block
pub IsHalved-split : {X : Type 0} (bs new : List (List X)) (p : ℕ) → p < length bs → length (block_at bs p) ≡ 128 → new ≡ insert (set bs p (take 64 (block_at bs p))) (p + 1) (drop 64 (block_at bs p)) → IsHalved bs new p
IsHalved-split {X} bs new p lt full is =
    let next : p + 1 ≡ suc p = omega arith in
    let cut : new ≡ cut_at bs p 64 = is ∙ ap (λ m. insert (set bs p (take 64 (block_at bs p))) m (drop 64 (block_at bs p))) next in
    let parts = block_at-cut bs p 64 lt in
    record {
      within = lt;
      full = full;
      cut = cut;
      more = ap (λ (z : List (List X)). length z) cut ∙ length-cut bs p 64 lt;
      front = ap (λ (z : List (List X)). length (block_at z p)) cut ∙ ap (λ (z : List X). length z) parts.0 ∙ (let l = length-take 64 (block_at bs p) in omega arith);
      back = ap (λ m. length (block_at new m)) next ∙ ap (λ (z : List (List X)). length (block_at z (suc p))) cut ∙ ap (λ (z : List X). length z) parts.1 ∙ (let l = length-drop 64 (block_at bs p) in omega arith);
    }

-- an insert into the front half is one at the offset of the whole block
pub insert-front : {X : Type 0} (bs new : List (List X)) (p offset : ℕ) (x : X) → IsHalved bs new p → offset ≤ 64 → concat_blocks (set new p (insert (block_at new p) offset x)) ≡ insert (concat_blocks bs) (index_at bs p offset) x
insert-front {X} bs new p offset x halved le =
    insert-concat_blocks new p offset x (omega (arith, halved.more, halved.within)) (omega (arith, halved.front))
    ∙ ap (λ (z : List (List X)). insert (concat_blocks z) (index_at z p offset) x) halved.cut
    ∙ ap (λ (z : List X). insert z (index_at (cut_at bs p 64) p offset) x) (concat_blocks-cut bs p 64 halved.within)
    ∙ ap (λ m. insert (concat_blocks bs) m x) (index_at-prefix bs p 64 offset halved.within)

-- so is one into the back half, at the offset after the 64 of the front
pub insert-back : {X : Type 0} (bs new : List (List X)) (p offset : ℕ) (x : X) → IsHalved bs new p → 64 < offset → offset ≤ 128 → concat_blocks (set new (p + 1) (insert (block_at new (p + 1)) (offset - 64) x)) ≡ insert (concat_blocks bs) (index_at bs p offset) x
insert-back {X} bs new p offset x halved big le =
    let next : p + 1 ≡ suc p = omega arith in
    let rest : 64 + (offset - 64) ≡ offset = omega arith in
    insert-concat_blocks new (p + 1) (offset - 64) x (omega (arith, halved.more, halved.within)) (omega (arith, halved.back))
    ∙ ap (λ m. insert (concat_blocks new) (index_at new m (offset - 64)) x) next
    ∙ ap (λ (z : List (List X)). insert (concat_blocks z) (index_at z (suc p) (offset - 64)) x) halved.cut
    ∙ ap (λ (z : List X). insert z (index_at (cut_at bs p 64) (suc p) (offset - 64)) x) (concat_blocks-cut bs p 64 halved.within)
    ∙ ap (λ m. insert (concat_blocks bs) m x) (index_at-back bs p 64 (offset - 64) halved.within (omega (arith, halved.full)) ∙ ap (index_at bs p) rest)
