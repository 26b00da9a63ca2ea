-- What is kept of numbers in blocks, and what an insert, a split and a delete leave of it.
use Rattle.tp_list.proofs.Members.{In-left, In-right, In-push, In-last, In-get_or, In-slice_get}
use Rattle.std.proofs.Common.{◌≡◌, ◌⊎◌, inl, inr, ℕ, zero, suc, ◌+◌, ◌-◌, ◌<◌, ◌≤◌, Bool, true, false, not, cond, ◌==◌, Option, None, Some, MatchOption, position, List, [], ◌∷◌, ◌++◌, length, take, drop, get_or, insert, set, filter, map, sum, slice_get, refl, sym, ap, ◌∙◌, subst, arith, length-append, zero-add}
use Rattle.std.proofs.lemmas.List.{get_or-set_other, get_or-set_same, take-append-drop, take_more, length-set, length-take, length-drop, map-append, length-map}
use Rattle.std.proofs.lemmas.Bool.{eqb-true, eq-eqb}
use Rattle.std.proofs.lemmas.List.Sums.{sum_by-cons, sum_by-take-le, sum_by-take-drop}
use Rattle.std.proofs.lemmas.List.Elements.{filter-append}
use Rattle.tp_list.specs.Members.{In}
use Rattle.tp_rga.proofs.Flagging.{map-insert, map_agree, length-filter-insert}
use Rattle.tp_rga.proofs.Lookups.{IsFirst, position-first}
use Rattle.tp_elements.proofs.Lists.{get_or-prefix, get_or-last, get_or-any, get_or-of_map, length-inserted, In-insert, In-inserted, In-insert_still}
use Rattle.tp_posindex.specs.Layout.{concat_blocks, block_at, index_at, IsGap, AreSized, StandsAt}
use Rattle.tp_posindex.specs.Laid.{flag_of, flags_of, count_visible, Once, IsNumbered, blocks_in_order, PoolInvariant}
use Rattle.tp_posindex.proofs.Joining.{In-concat_blocks, In-block, gap_block, IsHalved, IsHalved-split, insert-concat_blocks, cut_at, concat_blocks-cut, take-concat_blocks, In-set, In-parts, In-drop}

-- ---- numbers

-- two numbers are one or two
same_or_not : (j k : ℕ) → (j ≡ k) ⊎ ((j ≡ k) → ⊥)
same_or_not zero zero = inl refl
same_or_not zero (suc k) = inr (λ e. omega (arith, e))
same_or_not (suc j) zero = inr (λ e. omega (arith, e))
same_or_not (suc j) (suc k) =
    elim (same_or_not j k) as (λ _. (suc j ≡ suc k) ⊎ ((suc j ≡ suc k) → ⊥)) [ inl e ↦ inl (ap suc e) | inr n ↦ inr (λ e. n (omega (arith, e))) ]

-- a number is in a list or isn't
pub In-or_not : (k : ℕ) (ks : List ℕ) → In k ks ⊎ (In k ks → ⊥)
In-or_not k [] = inr (λ i. i)
In-or_not k (j ∷ ks) =
    elim (same_or_not k j) as (λ _. In k (j ∷ ks) ⊎ (In k (j ∷ ks) → ⊥)) [
      | inl e ↦ inl (inl e)
      | inr apart ↦ elim (In-or_not k ks) as (λ _. In k (j ∷ ks) ⊎ (In k (j ∷ ks) → ⊥)) [
        | inl i ↦ inl (inr i)
        | inr not_in ↦ inr (λ i. elim i as (λ _. ⊥) [ inl e ↦ apart e | inr h ↦ not_in h ])
      ]
    ]

-- a list without two of one, with a new one put in
Once-insert : (ks : List ℕ) (i k : ℕ) → Once ks → (In k ks → ⊥) → Once (insert ks i k)
Once-insert ks zero k once new = (new, once)
Once-insert [] (suc i) k once new = (λ h. h, tt)
Once-insert (j ∷ ks) (suc i) k once new = (
  λ h. elim (In-insert ks i k j h) as (λ _. ⊥) [ inl e ↦ new (inl (sym e)) | inr m ↦ once.0 m ],
  Once-insert ks i k once.1 (λ h. new (inr h)),
)

-- the next number put in
pub IsNumbered-insert : (n : ℕ) (ks : List ℕ) (i : ℕ) → IsNumbered n ks → IsNumbered (suc n) (insert ks i n)
IsNumbered-insert n ks i numbered = record {
  below = λ k h. elim (In-insert ks i n k h) as (λ _. k < suc n) [
    | inl e ↦ omega (arith, e)
    | inr m ↦ (let lt = numbered.below k m in omega arith)
  ];
  there = λ k lt. elim (same_or_not k n) as (λ _. In k (insert ks i n)) [
    | inl e ↦ subst (λ (w : ℕ). In w (insert ks i n)) (sym e) (In-inserted ks i n)
    | inr apart ↦ In-insert_still ks i n k (numbered.there k (let ne = apart in omega (arith, ne)))
  ];
  many = length-inserted ks i n ∙ ap suc numbered.many;
  once = Once-insert ks i n numbered.once (λ h. let lt = numbered.below n h in omega arith);
}

-- ---- look-ups

-- what is at a place
pub slice_get-there : {X : Type 0} (xs : List X) (i : ℕ) (x d : X) → slice_get xs i ≡ Some x → (i < length xs) × (get_or xs i d ≡ x)
slice_get-there [] i x d e = cc
slice_get-there (y ∷ xs) zero x d e = (omega arith, cc)
slice_get-there (y ∷ xs) (suc i) x d e = let r = slice_get-there xs i x d e in (omega (arith, r.0), r.1)

-- what a look-up within a list gives is there
pub get_or-there : {X : Type 0} (xs : List X) (i : ℕ) (x d : X) → i < length xs → get_or xs i d ≡ x → slice_get xs i ≡ Some x
get_or-there [] i x d lt e = absurd (omega arith)
get_or-there (y ∷ xs) zero x d lt e = ap Some e
get_or-there (y ∷ xs) (suc i) x d lt e = get_or-there xs i x d (omega arith) e

-- what is between two parts
at_middle : (xs : List ℕ) (x : ℕ) (ys : List ℕ) (i : ℕ) → length xs ≡ i → slice_get (xs ++ x ∷ ys) i ≡ Some x
at_middle [] x ys zero e = refl
at_middle [] x ys (suc i) e = absurd (omega arith)
at_middle (z ∷ xs) x ys zero e = absurd (omega arith)
at_middle (z ∷ xs) x ys (suc i) e = at_middle xs x ys i (omega arith)

-- what a look-up for a number says
number_found : (xs : List ℕ) (k : ℕ) (r : Option ℕ) → IsFirst (λ (x : ℕ). x == k) xs r → MatchOption r (In k xs → ⊥) (λ i. slice_get xs i ≡ Some k)
number_found xs k None h = λ i. let apart : (k == k) ≡ false = h k i in let same : (k == k) ≡ true = eq-eqb k k refl in cc
number_found xs k (Some i) h =
    let is : h.1 ≡ k = eqb-true h.1 k h.5 in
    ap (λ z. slice_get z i) h.3 ∙ at_middle h.0 h.1 h.2 i h.4 ∙ ap Some is

pub position_found : (xs : List ℕ) (k : ℕ) (r : Option ℕ) → position (λ (x : ℕ). x == k) xs ≡ r → MatchOption r (In k xs → ⊥) (λ i. slice_get xs i ≡ Some k)
position_found xs k r e = number_found xs k r (subst (IsFirst (λ (x : ℕ). x == k) xs) e (position-first (λ (x : ℕ). x == k) xs))

-- a map of a list with one replaced
pub map-replaced : {X Y : Type 0} (f : X → Y) (xs : List X) (p : ℕ) (v : X) → map f (set xs p v) ≡ set (map f xs) p (f v)
map-replaced f [] p v = refl
map-replaced f (x ∷ xs) zero v = refl
map-replaced f (x ∷ xs) (suc p) v = ap (λ z. f x ∷ z) (map-replaced f xs p v)

-- ---- the blocks in their order

-- how many blocks there are
pub length-blocks_in_order : (pool : List (List ℕ)) (order : List ℕ) → length (blocks_in_order pool order) ≡ length order
length-blocks_in_order pool order = length-map order (block_at pool)

-- the block at a place of the order
pub block_at-blocks_in_order : (pool : List (List ℕ)) (order : List ℕ) (p : ℕ) → p < length order → block_at (blocks_in_order pool order) p ≡ block_at pool (get_or order p 0)
block_at-blocks_in_order pool [] p lt = absurd (omega arith)
block_at-blocks_in_order pool (k ∷ order) zero lt = refl
block_at-blocks_in_order pool (k ∷ order) (suc p) lt = block_at-blocks_in_order pool order p (omega arith)

-- a place of the order names a block of the pool
pub order_within : (pool : List (List ℕ)) (order : List ℕ) (p k : ℕ) → IsNumbered (length pool) order → p < length order → k ≡ get_or order p k → k < length pool
order_within pool order p k ordered lt is =
    subst (λ (z : ℕ). z < length pool) (get_or-any order p 0 k lt ∙ sym is) (ordered.below (get_or order p 0) (In-get_or order p 0 lt))

-- the block that is read at a place of the order
pub block_read : (pool : List (List ℕ)) (order : List ℕ) (p k : ℕ) (b : List ℕ) → IsNumbered (length pool) order → p < length order → k ≡ get_or order p k → b ≡ get_or pool k b → b ≡ block_at (blocks_in_order pool order) p
block_read pool order p k b ordered lt is read =
    read
    ∙ get_or-any pool k b [] (order_within pool order p k ordered lt is)
    ∙ ap (block_at pool) (is ∙ get_or-any order p k 0 lt)
    ∙ sym (block_at-blocks_in_order pool order p lt)

-- the blocks of an order without the one that is written
blocks_in_order-apart : (pool : List (List ℕ)) (order : List ℕ) (k : ℕ) (v : List ℕ) → (In k order → ⊥) → blocks_in_order (set pool k v) order ≡ blocks_in_order pool order
blocks_in_order-apart pool [] k v apart = refl
blocks_in_order-apart pool (j ∷ order) k v apart =
    let ne : j ≡ k → ⊥ = (λ (e : j ≡ k). apart (inl (sym e))) in
    let here : block_at (set pool k v) j ≡ block_at pool j = get_or-set_other pool k j v [] ne in
    let rest = blocks_in_order-apart pool order k v (λ h. apart (inr h)) in
    cc

-- one block is written
pub blocks_in_order-set : (pool : List (List ℕ)) (order : List ℕ) (p : ℕ) (v : List ℕ) → Once order → p < length order → get_or order p 0 < length pool → blocks_in_order (set pool (get_or order p 0) v) order ≡ set (blocks_in_order pool order) p v
blocks_in_order-set pool [] p v once lt within = absurd (omega arith)
blocks_in_order-set pool (k ∷ order) zero v once lt within =
    let here : block_at (set pool k v) k ≡ v = get_or-set_same pool k v [] within in
    let rest = blocks_in_order-apart pool order k v once.0 in
    cc
blocks_in_order-set pool (k ∷ order) (suc p) v once lt within =
    let h = get_or order p 0 in
    let i : In h order = In-get_or order p 0 (omega arith) in
    let ne : k ≡ h → ⊥ = (λ (e : k ≡ h). once.0 (subst (λ (w : ℕ). In w order) (sym e) i)) in
    let here : block_at (set pool h v) k ≡ block_at pool k = get_or-set_other pool h k v [] ne in
    let rest = blocks_in_order-set pool order p v once.1 (omega arith) within in
    cc

-- the block that is read at a place of the order is written
pub laid_written : (pool : List (List ℕ)) (order : List ℕ) (p k : ℕ) (v : List ℕ) → IsNumbered (length pool) order → p < length order → k ≡ get_or order p k → blocks_in_order (set pool k v) order ≡ set (blocks_in_order pool order) p v
laid_written pool order p k v ordered lt is =
    let at : k ≡ get_or order p 0 = is ∙ get_or-any order p k 0 lt in
    ap (λ (z : ℕ). blocks_in_order (set pool z v) order) at ∙ blocks_in_order-set pool order p v ordered.once lt (ordered.below (get_or order p 0) (In-get_or order p 0 lt))

-- a block more in the pool
blocks_in_order-push : (pool : List (List ℕ)) (order : List ℕ) (v : List ℕ) → ((k : ℕ) → In k order → k < length pool) → blocks_in_order (pool ++ v ∷ []) order ≡ blocks_in_order pool order
blocks_in_order-push pool [] v below = refl
blocks_in_order-push pool (k ∷ order) v below =
    let here : block_at (pool ++ v ∷ []) k ≡ block_at pool k = get_or-prefix pool (v ∷ []) k [] (below k (inl refl)) in
    let rest = blocks_in_order-push pool order v (λ j i. below j (inr i)) in
    cc

-- where there are blocks, a gap is in one of them
pub gap_laid : {bs : List (List ℕ)} {p offset : ℕ} (pool : List (List ℕ)) (order : List ℕ) → IsGap bs p offset → blocks_in_order pool order ≡ bs → 0 < length order → p < length bs
gap_laid {bs} {p} {offset} pool order gap seen some =
    gap_block bs p offset gap (let many = length-blocks_in_order pool order in let same = ap (λ (z : List (List ℕ)). length z) seen in omega arith)

-- a block that is read and has 128 numbers at least is full
pub full_laid : {bs : List (List ℕ)} {p offset : ℕ} {b : List ℕ} (pool : List (List ℕ)) (order : List ℕ) → IsGap bs p offset → blocks_in_order pool order ≡ bs → 0 < length order → AreSized (blocks_in_order pool order) → b ≡ block_at bs p → 128 ≤ length b → (p < length bs) × (length (block_at bs p) ≡ 128)
full_laid {bs} {p} {offset} {b} pool order gap seen some sized read many =
    let lt = gap_laid pool order gap seen some in
    let few = (subst AreSized seen sized).few (block_at bs p) (In-block bs p lt) in
    let size = ap (λ (z : List ℕ). length z) read in
    (lt, omega arith)

-- it is split
pub IsHalved-blocks_in_order : {bs new : List (List ℕ)} {p offset : ℕ} {b : List ℕ} (pool : List (List ℕ)) (order : List ℕ) → IsGap bs p offset → blocks_in_order pool order ≡ bs → 0 < length order → AreSized (blocks_in_order pool order) → b ≡ block_at bs p → 128 ≤ length b → new ≡ insert (set bs p (take 64 (block_at bs p))) (p + 1) (drop 64 (block_at bs p)) → IsHalved bs new p
IsHalved-blocks_in_order {bs} {new} {p} pool order gap seen some sized read many is =
    let at = full_laid pool order gap seen some sized read many in
    IsHalved-split bs new p at.0 at.1 is

-- ---- counts

-- flags that are as they were leave a count
pub flags-agree : (f g : List Bool) (ks : List ℕ) → ((k : ℕ) → In k ks → flag_of f k ≡ flag_of g k) → flags_of f ks ≡ flags_of g ks
flags-agree f g ks same = map_agree (flag_of f) (flag_of g) ks same

-- the count of two lists
pub count-append : (f : List Bool) (xs ys : List ℕ) → count_visible f (xs ++ ys) ≡ count_visible f xs + count_visible f ys
count-append f xs ys =
    ap (λ z. length (filter not z)) (map-append (flag_of f) xs ys)
    ∙ ap length (filter-append not (flags_of f xs) (flags_of f ys))
    ∙ length-append (filter not (flags_of f xs)) (filter not (flags_of f ys))

-- the count of the two parts of a list
pub count-parts : (f : List Bool) (n : ℕ) (xs : List ℕ) → count_visible f xs ≡ count_visible f (take n xs) + count_visible f (drop n xs)
count-parts f n xs = ap (count_visible f) (sym (take-append-drop n xs)) ∙ count-append f (take n xs) (drop n xs)

-- a number with its flag down put in
pub count-insert : (f : List Bool) (ks : List ℕ) (i n : ℕ) → flag_of f n ≡ false → count_visible f (insert ks i n) ≡ suc (count_visible f ks)
count-insert f ks i n down =
    ap (λ z. length (filter not z)) (map-insert (flag_of f) ks i n)
    ∙ length-filter-insert not (flags_of f ks) i (flag_of f n) (ap not down)

-- no more are counted than there are
pub count-le : (f : List Bool) (ks : List ℕ) → count_visible f ks ≤ length ks
count-le f [] = omega arith
count-le f (k ∷ ks) =
    let rest = count-le f ks in
    elim (flag_of f k) as (λ b. length (cond (not b) (b ∷ filter not (flags_of f ks)) (filter not (flags_of f ks))) ≤ suc (length ks)) [ true ↦ omega arith | false ↦ omega arith ]

-- a flag more
pub flag-push : (f : List Bool) (k : ℕ) → k < length f → flag_of (f ++ false ∷ []) k ≡ flag_of f k
flag-push f k lt = get_or-prefix f (false ∷ []) k false lt

-- a raised flag of a number that isn't in the list
pub count-other : (f : List Bool) (k : ℕ) (ks : List ℕ) → (In k ks → ⊥) → flags_of (set f k true) ks ≡ flags_of f ks
count-other f k ks apart =
    flags-agree (set f k true) f ks (λ j i.
    let ne : j ≡ k → ⊥ = (λ (e : j ≡ k). apart (subst (λ (w : ℕ). In w ks) e i)) in get_or-set_other f k j true false ne)

-- a raised flag of a number that is in the list once
pub count-hidden : (f : List Bool) (k : ℕ) (ks : List ℕ) → Once ks → In k ks → k < length f → flag_of f k ≡ false → suc (count_visible (set f k true) ks) ≡ count_visible f ks
count-hidden f k [] once i lt down = absurd i
count-hidden f k (j ∷ ks) once (inl e) lt down =
    let up : flag_of (set f k true) j ≡ true = ap (flag_of (set f k true)) (sym e) ∙ get_or-set_same f k true false lt in
    let was : flag_of f j ≡ false = ap (flag_of f) (sym e) ∙ down in
    let rest : flags_of (set f k true) ks ≡ flags_of f ks = count-other f k ks (subst (λ (w : ℕ). In w ks → ⊥) (sym e) once.0) in
    ap (λ b. suc (length (cond (not b) (b ∷ filter not (flags_of (set f k true) ks)) (filter not (flags_of (set f k true) ks))))) up
    ∙ ap (λ z. suc (length (filter not z))) rest
    ∙ sym (ap (λ b. length (cond (not b) (b ∷ filter not (flags_of f ks)) (filter not (flags_of f ks)))) was)
count-hidden f k (j ∷ ks) once (inr i) lt down =
    let ne : j ≡ k → ⊥ = (λ (e : j ≡ k). once.0 (subst (λ (w : ℕ). In w ks) (sym e) i)) in
    let here : flag_of (set f k true) j ≡ flag_of f j = get_or-set_other f k j true false ne in
    let rest = count-hidden f k ks once.1 i lt down in
    ap (λ b. suc (length (cond (not b) (b ∷ filter not (flags_of (set f k true) ks)) (filter not (flags_of (set f k true) ks))))) here
    ∙ more (flag_of f j) (filter not (flags_of (set f k true) ks)) (filter not (flags_of f ks)) rest
  where
    more : (b : Bool) (xs ys : List Bool) → suc (length xs) ≡ length ys → suc (length (cond (not b) (b ∷ xs) xs)) ≡ length (cond (not b) (b ∷ ys) ys)
    more true xs ys e = e
    more false xs ys e = ap suc e

-- two prefixes of a list without two of one are so
pub Once-left : (xs ys : List ℕ) → Once (xs ++ ys) → Once xs
Once-left [] ys once = tt
Once-left (x ∷ xs) ys once = (λ i. once.0 (In-left x xs ys i), Once-left xs ys once.1)

pub Once-right : (xs ys : List ℕ) → Once (xs ++ ys) → Once ys
Once-right [] ys once = once
Once-right (x ∷ xs) ys once = Once-right xs ys once.1

-- what is in the one part isn't in the other
pub Once-apart : (xs ys : List ℕ) (k : ℕ) → Once (xs ++ ys) → In k xs → In k ys → ⊥
Once-apart [] ys k once i j = i
Once-apart (x ∷ xs) ys k once (inl e) j = once.0 (subst (λ (w : ℕ). In w (xs ++ ys)) e (In-right k xs ys j))
Once-apart (x ∷ xs) ys k once (inr i) j = Once-apart xs ys k once.1 i j

-- the counts after a flag is raised
pub counts-hidden : (f : List Bool) (k : ℕ) (bs : List (List ℕ)) (p : ℕ) → Once (concat_blocks bs) → p < length bs → In k (block_at bs p) → k < length f → flag_of f k ≡ false → map (count_visible (set f k true)) bs ≡ set (map (count_visible f) bs) p (count_visible f (block_at bs p) - 1)
counts-hidden f k [] p once lt i within down = absurd (omega arith)
counts-hidden f k (b ∷ bs) zero once lt i within down =
    let here = count-hidden f k b (Once-left b (concat_blocks bs) once) i within down in
    let this : count_visible (set f k true) b ≡ count_visible f b - 1 = omega arith in
    let rest : map (count_visible (set f k true)) bs ≡ map (count_visible f) bs =
    map_agree (count_visible (set f k true)) (count_visible f) bs (λ c j.
    ap (λ z. length (filter not z)) (count-other f k c (λ h. Once-apart b (concat_blocks bs) k once i (In-concat_blocks k c bs j h)))) in
    cc
counts-hidden f k (b ∷ bs) (suc p) once lt i within down =
    let here : count_visible (set f k true) b ≡ count_visible f b =
    ap (λ z. length (filter not z)) (count-other f k b (λ h. Once-apart b (concat_blocks bs) k once h (In-concat_blocks k (block_at bs p) bs (In-block bs p (omega arith)) i))) in
    let rest = counts-hidden f k bs p (Once-right b (concat_blocks bs) once) (omega arith) i within down in
    cc

-- ---- what is kept

-- the count that is read at a place of the order
pub count_read : (pool : List (List ℕ)) (order visible home : List ℕ) (flags : List Bool) (p v : ℕ) → PoolInvariant pool order visible home flags → p < length order → v ≡ get_or visible p v → v ≡ count_visible flags (block_at (blocks_in_order pool order) p)
count_read pool order visible home flags p v kept lt read =
    let many = length-blocks_in_order pool order in
    read ∙ ap (λ z. get_or z p v) kept.counted ∙ get_or-of_map (count_visible flags) (blocks_in_order pool order) p v [] (omega arith)

-- the home of the next number
home_of : {pool : List (List ℕ)} {order visible home : List ℕ} {flags : List Bool} → PoolInvariant pool order visible home flags → (k h : ℕ) → k < length flags → get_or (home ++ h ∷ []) k 0 ≡ get_or home k 0
home_of {home = home} kept k h lt = get_or-prefix home (h ∷ []) k 0 (omega (arith, kept.homes))

-- an insert into a block that isn't full
pub PoolInvariant-put : (pool : List (List ℕ)) (order visible home : List ℕ) (flags : List Bool) (p offset h n v : ℕ) (w : List ℕ) → PoolInvariant pool order visible home flags → p < length order → h ≡ get_or order p h → n ≡ length flags → v ≡ get_or visible p v → w ≡ insert (block_at pool h) offset n → offset ≤ length (block_at pool h) → length (block_at pool h) < 128 → PoolInvariant (set pool h w) order (set visible p (v + 1)) (home ++ h ∷ []) (flags ++ false ∷ [])
PoolInvariant-put pool order visible home flags p offset h n v w kept lt h_is n_is v_is w_is le few =
    let bs = blocks_in_order pool order in
    let f' = flags ++ false ∷ [] in
    let at : h ≡ get_or order p 0 = h_is ∙ get_or-any order p h 0 lt in
    let within : h < length pool = subst (λ (z : ℕ). z < length pool) (sym at) (kept.ordered.below (get_or order p 0) (In-get_or order p 0 lt)) in
    let many : length bs ≡ length order = length-blocks_in_order pool order in
    let lt_bs : p < length bs = omega arith in
    let b_is : block_at bs p ≡ block_at pool h = block_at-blocks_in_order pool order p lt ∙ ap (block_at pool) (sym at) in
    let le_bs : offset ≤ length (block_at bs p) = subst (λ (z : List ℕ). offset ≤ length z) (sym b_is) le in
    let written : blocks_in_order (set pool h w) order ≡ set bs p (insert (block_at bs p) offset n) =
    ap (λ (z : ℕ). blocks_in_order (set pool z w) order) at
    ∙ blocks_in_order-set pool order p w kept.ordered.once lt (subst (λ (z : ℕ). z < length pool) at within)
    ∙ ap (set bs p) (w_is ∙ ap (λ (z : List ℕ). insert z offset n) (sym b_is)) in
    let whole : concat_blocks (blocks_in_order (set pool h w) order) ≡ insert (concat_blocks bs) (index_at bs p offset) (length flags) =
    ap concat_blocks written ∙ insert-concat_blocks bs p offset n lt_bs le_bs ∙ ap (insert (concat_blocks bs) (index_at bs p offset)) n_is in
    let more : length f' ≡ suc (length flags) = length-append flags (false ∷ []) ∙ omega arith in
    let pool_same : length (set pool h w) ≡ length pool = length-set pool h w in
    let down : flag_of f' n ≡ false = get_or-last flags false n false n_is in
    let same : (c : List ℕ) → In c bs → count_visible f' c ≡ count_visible flags c = (λ c i.
    ap (λ z. length (filter not z)) (flags-agree f' flags c (λ k j. flag-push flags k (kept.numbered.below k (In-concat_blocks k c bs i j))))) in
    let counts : map (count_visible f') bs ≡ visible = map_agree (count_visible f') (count_visible flags) bs same ∙ sym kept.counted in
    let v_count : v ≡ count_visible flags (block_at bs p) = v_is ∙ ap (λ z. get_or z p v) kept.counted ∙ get_or-of_map (count_visible flags) bs p v [] lt_bs in
    let new_count : count_visible f' (insert (block_at bs p) offset n) ≡ v + 1 =
    count-insert f' (block_at bs p) offset n down ∙ ap suc (same (block_at bs p) (In-block bs p lt_bs) ∙ sym v_count) ∙ omega arith in
    let size : length (insert (block_at bs p) offset n) ≡ suc (length (block_at bs p)) = length-inserted (block_at bs p) offset n in
    let few_bs : length (block_at bs p) < 128 = subst (λ (z : List ℕ). length z < 128) (sym b_is) few in
    let still : (c : List ℕ) → In c (blocks_in_order (set pool h w) order) → (c ≡ insert (block_at bs p) offset n) ⊎ (In c bs × (1 < length bs)) = (λ c i.
    In-set bs p (insert (block_at bs p) offset n) c lt_bs (subst (In c) written i)) in
    let many' : length (blocks_in_order (set pool h w) order) ≡ length bs = length-blocks_in_order (set pool h w) order ∙ sym many in
    record {
      ordered = subst (λ m. IsNumbered m order) (sym pool_same) kept.ordered;
      homes = length-append home (h ∷ []) ∙ ap (λ m. m + 1) kept.homes ∙ sym (length-append flags (false ∷ []));
      at_home = λ k lt'. elim (same_or_not k n) as (λ _. get_or (home ++ h ∷ []) k 0 < length (set pool h w)) [
        | inl e ↦ (let g = get_or-last home h k 0 (e ∙ n_is ∙ sym kept.homes) in omega arith)
        | inr apart ↦ (
            let inside : k < length flags = (let ne = apart in omega arith) in
            let g = home_of kept k h inside in
            let t = kept.at_home k inside in omega arith)
      ];
      housed = λ k lt'. elim (same_or_not k n) as (λ _. In k (block_at (set pool h w) (get_or (home ++ h ∷ []) k 0))) [
        | inl e ↦ (
            let g : get_or (home ++ h ∷ []) k 0 ≡ h = get_or-last home h k 0 (e ∙ n_is ∙ sym kept.homes) in
            let got : block_at (set pool h w) (get_or (home ++ h ∷ []) k 0) ≡ insert (block_at pool h) offset n = ap (block_at (set pool h w)) g ∙ get_or-set_same pool h w [] within ∙ w_is in
            subst (In k) (sym got) (subst (λ (z : ℕ). In z (insert (block_at pool h) offset n)) (sym e) (In-inserted (block_at pool h) offset n)))
        | inr apart ↦ (
            let inside : k < length flags = (let ne = apart in omega arith) in
            let g : get_or (home ++ h ∷ []) k 0 ≡ get_or home k 0 = home_of kept k h inside in
            subst (λ (z : ℕ). In k (block_at (set pool h w) z)) (sym g) (in_written pool h offset n w k (get_or home k 0) within w_is (kept.housed k inside)))
      ];
      numbered = subst (λ (z : List ℕ). IsNumbered (length f') z) (sym whole) (subst (λ m. IsNumbered m (insert (concat_blocks bs) (index_at bs p offset) (length flags))) (sym more) (IsNumbered-insert (length flags) (concat_blocks bs) (index_at bs p offset) kept.numbered));
      counted = sym (ap (map (count_visible f')) written ∙ map-replaced (count_visible f') bs p (insert (block_at bs p) offset n) ∙ ap (λ z. set z p (count_visible f' (insert (block_at bs p) offset n))) counts ∙ ap (set visible p) new_count);
      sized = record {
        some = λ c i. elim (still c i) as (λ _. 1 ≤ length c) [
          | inl e ↦ (let l = ap length e in omega arith)
          | inr j ↦ kept.sized.some c j.0
        ];
        few = λ c i. elim (still c i) as (λ _. length c ≤ 128) [
          | inl e ↦ (let l = ap length e in omega arith)
          | inr j ↦ kept.sized.few c j.0
        ];
        half = λ several c i. elim (still c i) as (λ _. 64 ≤ length c) [
          | inl e ↦ (let l = ap length e in let half = kept.sized.half (omega arith) (block_at bs p) (In-block bs p lt_bs) in omega arith)
          | inr j ↦ kept.sized.half j.1 c j.0
        ];
      };
    }
  where
    in_written : (pool : List (List ℕ)) (h offset n : ℕ) (w : List ℕ) (k g : ℕ) → h < length pool → w ≡ insert (block_at pool h) offset n → In k (block_at pool g) → In k (block_at (set pool h w) g)
    in_written pool h offset n w k g within w_is i =
        elim (same_or_not g h) as (λ _. In k (block_at (set pool h w) g)) [
          | inl e ↦ (
              let got : block_at (set pool h w) g ≡ insert (block_at pool h) offset n = ap (block_at (set pool h w)) e ∙ get_or-set_same pool h w [] within ∙ w_is in
              subst (In k) (sym got) (In-insert_still (block_at pool h) offset n k (subst (λ (z : ℕ). In k (block_at pool z)) e i)))
          | inr apart ↦ (
              let ne : g ≡ h → ⊥ = apart in
              let got : block_at (set pool h w) g ≡ block_at pool g = get_or-set_other pool h g w [] ne in
              subst (In k) (sym got) i)
        ]

-- a new place in the order
laid_inserted : (pool : List (List ℕ)) (order : List ℕ) (q m : ℕ) (w : List ℕ) → ((k : ℕ) → In k order → k < length pool) → m ≡ length pool → blocks_in_order (pool ++ w ∷ []) (insert order q m) ≡ insert (blocks_in_order pool order) q w
laid_inserted pool order q m w below m_is =
    let last : block_at (pool ++ w ∷ []) m ≡ w = get_or-last pool w m [] m_is in
    map-insert (block_at (pool ++ w ∷ [])) order q m
    ∙ ap (λ z. insert (blocks_in_order (pool ++ w ∷ []) order) q z) last
    ∙ ap (λ z. insert z q w) (blocks_in_order-push pool order w below)

-- the blocks after a split
pub laid_split : (pool : List (List ℕ)) (order : List ℕ) (p q f m : ℕ) (prefix half : List ℕ) → IsNumbered (length pool) order → p < length order → q ≡ suc p → f ≡ get_or order p f → m ≡ length order → prefix ≡ take 64 (block_at pool f) → half ≡ drop 64 (block_at pool f) → blocks_in_order (set pool f prefix ++ half ∷ []) (insert order q m) ≡ cut_at (blocks_in_order pool order) p 64
laid_split pool order p q f m prefix half ordered lt q_is f_is m_is prefix_is half_is =
    let bs = blocks_in_order pool order in
    let same : length (set pool f prefix) ≡ length pool = length-set pool f prefix in
    let m_end : m ≡ length (set pool f prefix) = m_is ∙ ordered.many ∙ sym same in
    let below : (k : ℕ) → In k order → k < length (set pool f prefix) = (λ k i. subst (λ (z : ℕ). k < z) (sym same) (ordered.below k i)) in
    let b_is : block_at pool f ≡ block_at bs p = ap (block_at pool) (f_is ∙ get_or-any order p f 0 lt) ∙ sym (block_at-blocks_in_order pool order p lt) in
    laid_inserted (set pool f prefix) order q m half below m_end
    ∙ ap (λ z. insert z q half) (laid_written pool order p f prefix ordered lt f_is)
    ∙ ap (λ z. insert (set bs p z) q half) (prefix_is ∙ ap (take 64) b_is)
    ∙ ap (insert (set bs p (take 64 (block_at bs p))) q) (half_is ∙ ap (drop 64) b_is)
    ∙ ap (λ z. insert (set bs p (take 64 (block_at bs p))) z (drop 64 (block_at bs p))) q_is

-- a full block is split
pub PoolInvariant-split : (pool : List (List ℕ)) (order visible home home' : List ℕ) (flags : List Bool) (p q f m v c : ℕ) (prefix half : List ℕ) → PoolInvariant pool order visible home flags → p < length order → q ≡ suc p → f ≡ get_or order p f → m ≡ length order → v ≡ get_or visible p v → c ≡ count_visible flags half → prefix ≡ take 64 (block_at pool f) → half ≡ drop 64 (block_at pool f) → length (block_at pool f) ≡ 128 → length home' ≡ length home → ((k : ℕ) → In k half → get_or home' k 0 ≡ m) → ((k : ℕ) → (In k half → ⊥) → get_or home' k 0 ≡ get_or home k 0) → PoolInvariant (set pool f prefix ++ half ∷ []) (insert order q m) (insert (set visible p (v - c)) q c) home' flags
PoolInvariant-split pool order visible home home' flags p q f m v c prefix half kept lt q_is f_is m_is v_is c_is prefix_is half_is full homes renamed others =
    let bs = blocks_in_order pool order in
    let pool' = set pool f prefix ++ half ∷ [] in
    let new : blocks_in_order pool' (insert order q m) ≡ cut_at bs p 64 = laid_split pool order p q f m prefix half kept.ordered lt q_is f_is m_is prefix_is half_is in
    let many : length bs ≡ length order = length-blocks_in_order pool order in
    let lt_bs : p < length bs = omega arith in
    let same : length (set pool f prefix) ≡ length pool = length-set pool f prefix in
    let more : length pool' ≡ suc (length pool) = length-append (set pool f prefix) (half ∷ []) ∙ (let l = same in omega arith) in
    let m_pool : m ≡ length pool = m_is ∙ kept.ordered.many in
    let in_pool : f < length pool = order_within pool order p f kept.ordered lt f_is in
    let b_is : block_at pool f ≡ block_at bs p = ap (block_at pool) (f_is ∙ get_or-any order p f 0 lt) ∙ sym (block_at-blocks_in_order pool order p lt) in
    let prefix_cut : prefix ≡ take 64 (block_at bs p) = prefix_is ∙ ap (take 64) b_is in
    let half_cut : half ≡ drop 64 (block_at bs p) = half_is ∙ ap (drop 64) b_is in
    let whole : concat_blocks (blocks_in_order pool' (insert order q m)) ≡ concat_blocks bs = ap concat_blocks new ∙ concat_blocks-cut bs p 64 lt_bs in
    let v_count : v ≡ count_visible flags (block_at bs p) = count_read pool order visible home flags p v kept lt v_is in
    let c_count : c ≡ count_visible flags (drop 64 (block_at bs p)) = c_is ∙ ap (count_visible flags) half_cut in
    let parts = count-parts flags 64 (block_at bs p) in
    let rest_count : count_visible flags (take 64 (block_at bs p)) ≡ v - c = omega arith in
    let len_prefix : length prefix ≡ 64 = ap length prefix_is ∙ (let l = length-take 64 (block_at pool f) in omega arith) in
    let len_half : length half ≡ 64 = ap length half_is ∙ (let l = length-drop 64 (block_at pool f) in omega arith) in
    let still : (x : List ℕ) → In x (blocks_in_order pool' (insert order q m)) → (x ≡ half) ⊎ ((x ≡ prefix) ⊎ (In x bs × (1 < length bs))) = (λ x i.
    elim (In-insert (set bs p (take 64 (block_at bs p))) (suc p) (drop 64 (block_at bs p)) x (subst (In x) new i)) as (λ _. (x ≡ half) ⊎ ((x ≡ prefix) ⊎ (In x bs × (1 < length bs)))) [
      | inl e ↦ inl (e ∙ sym half_cut)
      | inr j ↦ inr (elim (In-set bs p (take 64 (block_at bs p)) x lt_bs j) as (λ _. (x ≡ prefix) ⊎ (In x bs × (1 < length bs))) [
        | inl e ↦ inl (e ∙ sym prefix_cut)
        | inr h ↦ inr h
      ])
    ]) in
    record {
      ordered = subst (λ n. IsNumbered n (insert order q m)) (sym more) (subst (λ n. IsNumbered (suc (length pool)) (insert order q n)) (sym m_pool) (IsNumbered-insert (length pool) order q kept.ordered));
      homes = homes ∙ kept.homes;
      at_home = λ k lt'. elim (In-or_not k half) as (λ _. get_or home' k 0 < length pool') [
        | inl i ↦ (let e = renamed k i in omega arith)
        | inr not_in ↦ (let e = others k not_in in let g = kept.at_home k lt' in omega arith)
      ];
      housed = λ k lt'. elim (In-or_not k half) as (λ _. In k (block_at pool' (get_or home' k 0))) [
        | inl i ↦ (
            let got : block_at pool' (get_or home' k 0) ≡ half = ap (block_at pool') (renamed k i) ∙ get_or-last (set pool f prefix) half m [] (m_pool ∙ sym same) in
            subst (In k) (sym got) i)
        | inr not_in ↦ (
            let g = get_or home k 0 in
            let g_in : g < length (set pool f prefix) = (let t = kept.at_home k lt' in omega arith) in
            let got : block_at pool' (get_or home' k 0) ≡ block_at (set pool f prefix) g = ap (block_at pool') (others k not_in) ∙ get_or-prefix (set pool f prefix) (half ∷ []) g [] g_in in
            subst (In k) (sym got) (in_prefix pool f prefix half k g in_pool prefix_is half_is not_in (kept.housed k lt')))
      ];
      numbered = subst (IsNumbered (length flags)) (sym whole) kept.numbered;
      counted = sym (ap (map (count_visible flags)) new
          ∙ map-insert (count_visible flags) (set bs p (take 64 (block_at bs p))) (suc p) (drop 64 (block_at bs p))
          ∙ ap (λ z. insert z (suc p) (count_visible flags (drop 64 (block_at bs p)))) (map-replaced (count_visible flags) bs p (take 64 (block_at bs p)) ∙ ap (λ z. set z p (count_visible flags (take 64 (block_at bs p)))) (sym kept.counted) ∙ ap (set visible p) rest_count)
          ∙ ap (insert (set visible p (v - c)) (suc p)) (sym c_count)
          ∙ ap (λ z. insert (set visible p (v - c)) z c) (sym q_is));
      sized = record {
        some = λ x i. elim (still x i) as (λ _. 1 ≤ length x) [
          | inl e ↦ (let l = ap length e in omega arith)
          | inr (inl e) ↦ (let l = ap length e in omega arith)
          | inr (inr j) ↦ kept.sized.some x j.0
        ];
        few = λ x i. elim (still x i) as (λ _. length x ≤ 128) [
          | inl e ↦ (let l = ap length e in omega arith)
          | inr (inl e) ↦ (let l = ap length e in omega arith)
          | inr (inr j) ↦ kept.sized.few x j.0
        ];
        half = λ several x i. elim (still x i) as (λ _. 64 ≤ length x) [
          | inl e ↦ (let l = ap length e in omega arith)
          | inr (inl e) ↦ (let l = ap length e in omega arith)
          | inr (inr j) ↦ kept.sized.half j.1 x j.0
        ];
      };
    }
  where
    in_prefix : (pool : List (List ℕ)) (f : ℕ) (prefix half : List ℕ) (k g : ℕ) → f < length pool → prefix ≡ take 64 (block_at pool f) → half ≡ drop 64 (block_at pool f) → (In k half → ⊥) → In k (block_at pool g) → In k (block_at (set pool f prefix) g)
    in_prefix pool f prefix half k g in_pool prefix_is half_is not_in i =
        elim (same_or_not g f) as (λ _. In k (block_at (set pool f prefix) g)) [
          | inl e ↦ (
              let got : block_at (set pool f prefix) g ≡ prefix = ap (block_at (set pool f prefix)) e ∙ get_or-set_same pool f prefix [] in_pool in
              subst (In k) (sym got) (elim (In-parts 64 (block_at pool f) k (subst (λ (z : ℕ). In k (block_at pool z)) e i)) as (λ _. In k prefix) [
                | inl j ↦ subst (In k) (sym prefix_is) j
                | inr j ↦ absurd (not_in (subst (In k) (sym half_is) j))
              ]))
          | inr apart ↦ (
              let ne : g ≡ f → ⊥ = apart in
              let got : block_at (set pool f prefix) g ≡ block_at pool g = get_or-set_other pool f g prefix [] ne in
              subst (In k) (sym got) i)
        ]

-- a flag is raised
pub PoolInvariant-hide : (pool : List (List ℕ)) (order visible home : List ℕ) (flags : List Bool) (p offset k v : ℕ) → PoolInvariant pool order visible home flags → StandsAt (blocks_in_order pool order) p offset k → k < length flags → flag_of flags k ≡ false → v ≡ get_or visible p v → (1 ≤ v) × PoolInvariant pool order (set visible p (v - 1)) home (set flags k true)
PoolInvariant-hide pool order visible home flags p offset k v kept at within down v_is =
    let bs = blocks_in_order pool order in
    let lt : p < length order = (let many = length-blocks_in_order pool order in let b = at.block in omega arith) in
    let inside : In k (block_at bs p) = In-slice_get (block_at bs p) offset k at.at in
    let v_count : v ≡ count_visible flags (block_at bs p) = count_read pool order visible home flags p v kept lt v_is in
    let one = count-hidden flags k (block_at bs p) (Once-block bs p kept.numbered.once at.block) inside within down in
    let counts = counts-hidden flags k bs p kept.numbered.once at.block inside within down in
    let same : length (set flags k true) ≡ length flags = length-set flags k true in (
      omega arith,
      record {
        ordered = kept.ordered;
        homes = kept.homes ∙ sym same;
        at_home = λ j lt'. kept.at_home j (subst (λ (z : ℕ). j < z) same lt');
        housed = λ j lt'. kept.housed j (subst (λ (z : ℕ). j < z) same lt');
        numbered = subst (λ n. IsNumbered n (concat_blocks bs)) (sym same) kept.numbered;
        counted = sym (counts ∙ ap (λ z. set z p (count_visible flags (block_at bs p) - 1)) (sym kept.counted) ∙ ap (λ z. set visible p (z - 1)) (sym v_count));
        sized = kept.sized;
      },
    )
  where
    Once-block : (bs : List (List ℕ)) (p : ℕ) → Once (concat_blocks bs) → p < length bs → Once (block_at bs p)
    Once-block [] p once lt = absurd (omega arith)
    Once-block (b ∷ bs) zero once lt = Once-left b (concat_blocks bs) once
    Once-block (b ∷ bs) (suc p) once lt = Once-block bs p (Once-right b (concat_blocks bs) once) (omega arith)

-- a number is in the block that is its home, and this is one of the order
pub home_there : (pool : List (List ℕ)) (order visible home : List ℕ) (flags : List Bool) (k h : ℕ) → PoolInvariant pool order visible home flags → k < length flags → h ≡ get_or home k h → In h order × (h < length pool) × In k (block_at pool h)
home_there pool order visible home flags k h kept lt h_is =
    let at : h ≡ get_or home k 0 = h_is ∙ get_or-any home k h 0 (let l = kept.homes in omega arith) in
    let within : h < length pool = (let g = kept.at_home k lt in omega arith) in
    (kept.ordered.there h within, within, subst (λ (z : ℕ). In k (block_at pool z)) (sym at) (kept.housed k lt))

-- where its home is in the order, it is
pub home_present : (pool : List (List ℕ)) (order : List ℕ) (p h offset k : ℕ) (b : List ℕ) → slice_get order p ≡ Some h → h < length pool → b ≡ get_or pool h b → slice_get b offset ≡ Some k → StandsAt (blocks_in_order pool order) p offset k
home_present pool order p h offset k b found within read at =
    let there = slice_get-there order p h 0 found in
    let is : b ≡ block_at (blocks_in_order pool order) p = read ∙ get_or-any pool h b [] within ∙ ap (block_at pool) (sym there.1) ∙ sym (block_at-blocks_in_order pool order p there.0) in
    record {
      block = (let many = length-blocks_in_order pool order in omega (arith, there.0));
      at = subst (λ z. slice_get z offset ≡ Some k) is at;
    }

-- ---- renaming

-- one number more is renamed
pub renamed_more : (home old ks : List ℕ) (i b : ℕ) → i < length ks → get_or ks i 0 < length home → ((k : ℕ) → In k (take i ks) → get_or home k 0 ≡ b) → ((k : ℕ) → (In k (take i ks) → ⊥) → get_or home k 0 ≡ get_or old k 0) → ((k : ℕ) → In k (take (i + 1) ks) → get_or (set home (get_or ks i 0) b) k 0 ≡ b) × ((k : ℕ) → (In k (take (i + 1) ks) → ⊥) → get_or (set home (get_or ks i 0) b) k 0 ≡ get_or old k 0)
renamed_more home old ks i b lt within renamed others =
    let n = get_or ks i 0 in
    let more : take (i + 1) ks ≡ take i ks ++ n ∷ [] = take_more ks i 0 lt in (
      λ k h. elim (same_or_not k n) as (λ _. get_or (set home n b) k 0 ≡ b) [
        | inl e ↦ ap (λ z. get_or (set home n b) z 0) e ∙ get_or-set_same home n b 0 within
        | inr apart ↦ (
            let ne : k ≡ n → ⊥ = apart in
            get_or-set_other home n k b 0 ne ∙ renamed k (elim (In-push k (take i ks) n (subst (In k) more h)) as (λ _. In k (take i ks)) [ inl j ↦ j | inr e ↦ absurd (apart e) ]))
      ],
      λ k not_in.
          let ne : k ≡ n → ⊥ = (λ (e : k ≡ n). not_in (subst (In k) (sym more) (subst (λ (z : ℕ). In z (take i ks ++ n ∷ [])) (sym e) (In-last n (take i ks))))) in
          get_or-set_other home n k b 0 ne ∙ others k (λ h. not_in (subst (In k) (sym more) (In-left k (take i ks) (n ∷ []) h))),
    )

-- ---- counts of blocks

-- the counts of the blocks before one are the count of all before it
pub counts_before : (f : List Bool) (bs : List (List ℕ)) (p : ℕ) → sum (take p (map (count_visible f) bs)) ≡ count_visible f (concat_blocks (take p bs))
counts_before f bs zero = refl
counts_before f [] (suc p) = refl
counts_before f (b ∷ bs) (suc p) =
    sum_by-cons (λ (x : ℕ). x) (count_visible f b) (take p (map (count_visible f) bs))
    ∙ ap (λ n. count_visible f b + n) (counts_before f bs p)
    ∙ sym (count-append f b (concat_blocks (take p bs)))

-- the counts of all blocks are the count of all
pub counts_all : (f : List Bool) (bs : List (List ℕ)) → sum (map (count_visible f) bs) ≡ count_visible f (concat_blocks bs)
counts_all f [] = refl
counts_all f (b ∷ bs) =
    sum_by-cons (λ (x : ℕ). x) (count_visible f b) (map (count_visible f) bs)
    ∙ ap (λ n. count_visible f b + n) (counts_all f bs)
    ∙ sym (count-append f b (concat_blocks bs))

-- the counts before a block and the count within it are the count before the place
pub count_before : (f : List Bool) (bs : List (List ℕ)) (visible : List ℕ) (p offset : ℕ) → visible ≡ map (count_visible f) bs → p < length bs → offset ≤ length (block_at bs p) → sum (take p visible) + count_visible f (take offset (block_at bs p)) ≡ count_visible f (take (index_at bs p offset) (concat_blocks bs))
count_before f bs visible p offset counted lt le =
    ap (λ n. n + count_visible f (take offset (block_at bs p))) (ap (λ z. sum (take p z)) counted ∙ counts_before f bs p)
    ∙ sym (count-append f (concat_blocks (take p bs)) (take offset (block_at bs p)))
    ∙ ap (count_visible f) (sym (take-concat_blocks bs p offset lt le))

-- ---- the parts of a split

-- the half of a block has numbers that are there
pub half_below : (n : ℕ) (bs : List (List ℕ)) (p : ℕ) (half : List ℕ) → IsNumbered n (concat_blocks bs) → p < length bs → half ≡ drop 64 (block_at bs p) → (k d : ℕ) → k < length half → get_or half k d < n
half_below n bs p half numbered lt is k d short =
    numbered.below (get_or half k d) (In-concat_blocks (get_or half k d) (block_at bs p) bs (In-block bs p lt) (In-drop 64 (block_at bs p) (get_or half k d) (subst (In (get_or half k d)) is (In-get_or half k d short))))

-- no more are counted in the half than in the block
pub half_count : (pool : List (List ℕ)) (order visible home : List ℕ) (flags : List Bool) (p v : ℕ) (half : List ℕ) → PoolInvariant pool order visible home flags → p < length order → v ≡ get_or visible p v → half ≡ drop 64 (block_at (blocks_in_order pool order) p) → count_visible flags half ≤ v
half_count pool order visible home flags p v half kept lt v_is is =
    let read = count_read pool order visible home flags p v kept lt v_is in
    let parts = count-parts flags 64 (block_at (blocks_in_order pool order) p) in
    let same = ap (count_visible flags) is in
    omega arith

-- a whole list that was written
pub written_whole : (xs ys : List ℕ) (n : ℕ) → length xs ≡ length ys → n ≡ length ys → take n (xs ++ drop (length xs) ys) ≡ xs
written_whole xs ys n e m =
    ap (λ z. take n (xs ++ z)) (drop_all (length xs) ys (omega arith)) ∙ prefix n xs (omega arith)
  where
    drop_all : (m : ℕ) (ys : List ℕ) → m ≡ length ys → drop m ys ≡ []
    drop_all zero [] h = refl
    drop_all zero (y ∷ ys) h = absurd (omega arith)
    drop_all (suc m) [] h = refl
    drop_all (suc m) (y ∷ ys) h = drop_all m ys (omega arith)

    prefix : (m : ℕ) (xs : List ℕ) → m ≡ length xs → take m (xs ++ []) ≡ xs
    prefix zero [] h = refl
    prefix zero (x ∷ xs) h = absurd (omega arith)
    prefix (suc m) [] h = refl
    prefix (suc m) (x ∷ xs) h = ap (λ z. x ∷ z) (prefix m xs (omega arith))

-- ---- sums of stretches

take_nothing : (n : ℕ) → take {A = ℕ} n [] ≡ []
take_nothing zero = refl
take_nothing (suc n) = refl

-- a sum up to a place and of a stretch after it
pub sum_stretch : (f n : ℕ) (xs : List ℕ) → sum (take f xs) + sum (take n (drop f xs)) ≡ sum (take (f + n) xs)
sum_stretch zero n xs = zero-add (sum (take n xs)) ∙ ap (λ m. sum (take m xs)) (sym (zero-add n))
sum_stretch (suc f) n [] =
    let e : sum (take n []) ≡ 0 = ap sum (take_nothing n) in
    let g : sum (take (suc f + n) []) ≡ 0 = ap sum (take_nothing (suc f + n)) in
    omega arith
sum_stretch (suc f) n (x ∷ xs) =
    let rest = sum_stretch f n xs in
    let up : suc f + n ≡ suc (f + n) = omega arith in
    let one = sum_by-cons (λ (y : ℕ). y) x (take f xs) in
    let all : sum (take (suc f + n) (x ∷ xs)) ≡ x + sum (take (f + n) xs) = ap (λ m. sum (take m (x ∷ xs))) up ∙ sum_by-cons (λ (y : ℕ). y) x (take (f + n) xs) in
    omega arith

-- a stretch has no greater sum than the whole
pub sum_stretch-le : (f n : ℕ) (xs : List ℕ) → sum (take n (drop f xs)) ≤ sum xs
sum_stretch-le f n xs =
    let part = sum_by-take-le (λ (y : ℕ). y) (drop f xs) n in
    let whole = sum_by-take-drop (λ (y : ℕ). y) xs f in
    omega arith
