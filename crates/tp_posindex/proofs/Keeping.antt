-- Where each block is in the order, and how long each is: what look-ups find, and what an insert and a split leave.
use Rattle.tp_list.proofs.Members.{In-get_or, In-index}
use Rattle.std.proofs.Common.{◌≡◌, ◌⊎◌, inl, inr, ℕ, zero, suc, ◌+◌, ◌-◌, ◌<◌, ◌≤◌, Bool, false, Some, List, [], ◌∷◌, ◌++◌, length, take, drop, get_or, insert, set, map, sum, slice_get, refl, sym, ap, ◌∙◌, subst, arith, length-append}
use Rattle.std.proofs.lemmas.List.{get_or-set_other, get_or-set_same, length-map, length-take, length-drop}
use Rattle.std.proofs.lemmas.List.Sums.{sum_by-cons}
use Rattle.tp_list.specs.Members.{In}
use Rattle.tp_rga.proofs.Flagging.{map-insert}
use Rattle.tp_elements.proofs.Lists.{get_or-prefix, get_or-any, get_or-of_map}
use Rattle.tp_posindex.specs.Layout.{concat_blocks, block_at, StandsAt}
use Rattle.tp_posindex.specs.Laid.{count_visible, Once, IsNumbered, blocks_in_order}
use Rattle.tp_posindex.specs.Kept.{AreIndexed, BlocksInvariant}
use Rattle.tp_posindex.specs.CountsState.{split_at}
use Rattle.tp_posindex.proofs.Joining.{cut_at}
use Rattle.tp_posindex.proofs.Laying.{get_or-there, map-replaced, length-blocks_in_order, count-le, counts_all, home_there, home_present}

-- ---- the index of each block

-- a number below the next is below this or is this
below_next : (k n : ℕ) → k < n + 1 → (k < n) ⊎ (k ≡ n)
below_next k zero lt = inr (omega arith)
below_next zero (suc n) lt = inl (omega arith)
below_next (suc k) (suc n) lt = elim (below_next k n (omega arith)) as (λ _. (suc k < suc n) ⊎ (suc k ≡ suc n)) [ inl h ↦ inl (omega (arith, h)) | inr e ↦ inr (ap suc e) ]

-- two places of a list without two of one have two numbers
Once-places : (ks : List ℕ) (i j : ℕ) → Once ks → i < j → j < length ks → get_or ks i 0 ≡ get_or ks j 0 → ⊥
Once-places [] i j once less lt e = absurd (omega arith)
Once-places (k ∷ ks) i zero once less lt e = absurd (omega arith)
Once-places (k ∷ ks) zero (suc j) once less lt e = once.0 (subst (λ (z : ℕ). In z ks) (sym e) (In-get_or ks j 0 (omega arith)))
Once-places (k ∷ ks) (suc i) (suc j) once less lt e = Once-places ks i j once.1 (omega arith) (omega arith) e

-- one block more has its index
pub indexed_more : (order index : List ℕ) (i : ℕ) → Once order → i < length order → get_or order i 0 < length index → ((p : ℕ) → p < i → get_or index (get_or order p 0) 0 ≡ p) → (p : ℕ) → p < i + 1 → get_or (set index (get_or order i 0) i) (get_or order p 0) 0 ≡ p
indexed_more order index i once lt within before p less =
    let k = get_or order i 0 in
    elim (below_next p i less) as (λ _. get_or (set index k i) (get_or order p 0) 0 ≡ p) [
      | inl earlier ↦ (
          let ne : get_or order p 0 ≡ k → ⊥ = (λ (e : get_or order p 0 ≡ k). Once-places order p i once earlier lt e) in
          get_or-set_other index k (get_or order p 0) i 0 ne ∙ before p earlier)
      | inr is ↦ ap (λ (z : ℕ). get_or (set index k i) (get_or order z 0) 0) is ∙ get_or-set_same index k i 0 within ∙ sym is
    ]

-- what is before something that is put in
get_or-insert-lt : (xs : List ℕ) (n i v d : ℕ) → n < i → i ≤ length xs → get_or (insert xs i v) n d ≡ get_or xs n d
get_or-insert-lt xs n zero v d less le = absurd (omega arith)
get_or-insert-lt [] n (suc i) v d less le = absurd (omega arith)
get_or-insert-lt (x ∷ xs) zero (suc i) v d less le = refl
get_or-insert-lt (x ∷ xs) (suc n) (suc i) v d less le = get_or-insert-lt xs n i v d (omega arith) (omega arith)

-- the blocks before one that is put in have their index
pub indexed_before : (order index : List ℕ) (q m n : ℕ) → IsNumbered (length order) order → length index ≡ length order → AreIndexed order index → q ≤ length order → (p : ℕ) → p < q → get_or (index ++ n ∷ []) (get_or (insert order q m) p 0) 0 ≡ p
indexed_before order index q m n ordered many indexed le p less =
    let lt : p < length order = omega arith in
    let within : get_or order p 0 < length index = (let b = ordered.below (get_or order p 0) (In-get_or order p 0 lt) in omega arith) in
    ap (λ (z : ℕ). get_or (index ++ n ∷ []) z 0) (get_or-insert-lt order p q m 0 less le)
    ∙ get_or-prefix index (n ∷ []) (get_or order p 0) 0 within
    ∙ indexed p lt

-- a number is where the index has its home
pub home_indexed : (pool : List (List ℕ)) (order index lens visible home : List ℕ) (flags : List Bool) (k h p offset : ℕ) (b : List ℕ) → BlocksInvariant pool order index lens visible home flags → k < length flags → h ≡ get_or home k h → p ≡ get_or index h p → b ≡ get_or pool h b → slice_get b offset ≡ Some k → StandsAt (blocks_in_order pool order) p offset k
home_indexed pool order index lens visible home flags k h p offset b kept lt h_is p_is b_is at =
    let there = home_there pool order visible home flags k h kept.blocks lt h_is in
    let found = In-index h order there.0 in
    let within : h < length index = (let m = kept.blocks.ordered.many in let n = kept.many in let w = there.1 in omega arith) in
    let is : p ≡ found.0 = p_is ∙ get_or-any index h p 0 within ∙ ap (λ (z : ℕ). get_or index z 0) (sym (found.2 0)) ∙ kept.indexed found.0 found.1 in
    let present : slice_get order p ≡ Some h = ap (slice_get order) is ∙ get_or-there order found.0 h 0 found.1 (found.2 0) in
    home_present pool order p h offset k b present there.1 b_is at

-- ---- lengths

-- the lengths of the blocks before one are where it begins
pub lengths_before : (bs : List (List ℕ)) (p : ℕ) → sum (take p (map length bs)) ≡ length (concat_blocks (take p bs))
lengths_before bs zero = refl
lengths_before [] (suc p) = refl
lengths_before (b ∷ bs) (suc p) =
    sum_by-cons (λ (x : ℕ). x) (length b) (take p (map length bs))
    ∙ ap (λ n. length b + n) (lengths_before bs p)
    ∙ sym (length-append b (concat_blocks (take p bs)))

-- the lengths of all blocks are the length of the whole
pub lengths_all : (bs : List (List ℕ)) → sum (map length bs) ≡ length (concat_blocks bs)
lengths_all [] = refl
lengths_all (b ∷ bs) =
    sum_by-cons (λ (x : ℕ). x) (length b) (map length bs)
    ∙ ap (λ n. length b + n) (lengths_all bs)
    ∙ sym (length-append b (concat_blocks bs))

-- the length that is kept of a block
pub length_kept : (bs : List (List ℕ)) (lens : List ℕ) (p : ℕ) → lens ≡ map length bs → p < length bs → get_or lens p 0 ≡ length (block_at bs p)
length_kept bs lens p measured lt = ap (λ z. get_or z p 0) measured ∙ get_or-of_map length bs p 0 [] lt

-- as many are kept as there are blocks
pub many_kept : (pool : List (List ℕ)) (order index lens visible home : List ℕ) (flags : List Bool) → BlocksInvariant pool order index lens visible home flags → (length lens ≡ length (blocks_in_order pool order)) × (length visible ≡ length (blocks_in_order pool order))
many_kept pool order index lens visible home flags kept = (
  ap (λ (z : List ℕ). length z) kept.measured ∙ length-map (blocks_in_order pool order) length,
  ap (λ (z : List ℕ). length z) kept.blocks.counted ∙ length-map (blocks_in_order pool order) (count_visible flags),
)

-- the lengths and the counts are of no more than there are flags
pub kept_within : (pool : List (List ℕ)) (order index lens visible home : List ℕ) (flags : List Bool) → BlocksInvariant pool order index lens visible home flags → (sum lens ≤ length flags) × (sum visible ≤ length flags)
kept_within pool order index lens visible home flags kept =
    let bs = blocks_in_order pool order in
    let many = kept.blocks.numbered.many in
    let lengths : sum lens ≡ length (concat_blocks bs) = ap sum kept.measured ∙ lengths_all bs in
    let counts : sum visible ≡ count_visible flags (concat_blocks bs) = ap sum kept.blocks.counted ∙ counts_all flags bs in
    let le = count-le flags (concat_blocks bs) in (omega arith, omega arith)

-- the lengths where a block has one number more
pub measured_put : (bs : List (List ℕ)) (lens : List ℕ) (p : ℕ) (w : List ℕ) → lens ≡ map length bs → p < length bs → length w ≡ suc (length (block_at bs p)) → set lens p (get_or lens p 0 + 1) ≡ map length (set bs p w)
measured_put bs lens p w measured lt size =
    let was = length_kept bs lens p measured lt in
    let now : get_or lens p 0 + 1 ≡ length w = omega arith in
    ap (set lens p) now ∙ ap (λ z. set z p (length w)) measured ∙ sym (map-replaced length bs p w)

-- the lengths where a full block is cut in two
pub measured_cut : (bs : List (List ℕ)) (lens : List ℕ) (p : ℕ) → lens ≡ map length bs → p < length bs → length (block_at bs p) ≡ 128 → split_at lens p 64 ≡ map length (cut_at bs p 64)
measured_cut bs lens p measured lt full =
    let b = block_at bs p in
    let was = length_kept bs lens p measured lt in
    let left : get_or lens p 0 - 64 ≡ length (take 64 b) = (let l = length-take 64 b in omega arith) in
    let right : 64 ≡ length (drop 64 b) = (let l = length-drop 64 b in omega arith) in
    let next : p + 1 ≡ suc p = omega arith in
    ap (λ (z : ℕ). insert (set lens p (get_or lens p 0 - 64)) z 64) next
    ∙ ap (λ (z : ℕ). insert (set lens p z) (suc p) 64) left
    ∙ ap (insert (set lens p (length (take 64 b))) (suc p)) right
    ∙ ap (λ z. insert (set z p (length (take 64 b))) (suc p) (length (drop 64 b))) measured
    ∙ sym (map-insert length (set bs p (take 64 b)) (suc p) (drop 64 b) ∙ ap (λ z. insert z (suc p) (length (drop 64 b))) (map-replaced length bs p (take 64 b)))

-- ---- the first block

-- a list of no length is empty
nothing : {X : Type 0} (xs : List X) → length xs ≡ 0 → xs ≡ []
nothing [] e = refl
nothing (x ∷ xs) e = absurd (omega arith)

-- the number 0 alone
zero_alone : IsNumbered 1 (0 ∷ [])
zero_alone = record {
  below = λ k i. elim i as (λ _. k < 1) [ inl e ↦ omega (arith, e) | inr h ↦ absurd h ];
  there = λ k lt. inl (omega arith);
  many = refl;
  once = (λ h. h, tt);
}

-- one block, with one number whose flag is down
first_block : BlocksInvariant ((0 ∷ []) ∷ []) (0 ∷ []) (0 ∷ []) (1 ∷ []) (1 ∷ []) (0 ∷ []) (false ∷ [])
first_block = record {
  blocks = record {
    ordered = zero_alone;
    homes = refl;
    at_home = λ k lt. (let e : k ≡ 0 = omega arith in subst (λ (z : ℕ). get_or (0 ∷ []) z 0 < 1) (sym e) (omega arith));
    housed = λ k lt. (let e : k ≡ 0 = omega arith in subst (λ (z : ℕ). In z (block_at ((0 ∷ []) ∷ []) (get_or (0 ∷ []) z 0))) (sym e) (inl refl));
    numbered = zero_alone;
    counted = refl;
    sized = record {
      some = λ b i. elim i as (λ _. 1 ≤ length b) [ inl e ↦ (let l = ap (λ (z : List ℕ). length z) e in omega arith) | inr h ↦ absurd h ];
      few = λ b i. elim i as (λ _. length b ≤ 128) [ inl e ↦ (let l = ap (λ (z : List ℕ). length z) e in omega arith) | inr h ↦ absurd h ];
      half = λ several b i. absurd (omega arith);
    };
  };
  many = refl;
  indexed = λ p lt. (let e : p ≡ 0 = omega arith in subst (λ (z : ℕ). get_or (0 ∷ []) (get_or (0 ∷ []) z 0) 0 ≡ z) (sym e) refl);
  measured = refl;
}

-- where there is no block, the first is opened
pub BlocksInvariant-first : (pool : List (List ℕ)) (order index lens visible home : List ℕ) (flags : List Bool) → BlocksInvariant pool order index lens visible home flags → blocks_in_order pool order ≡ [] → BlocksInvariant (pool ++ (0 ∷ []) ∷ []) (order ++ 0 ∷ []) (index ++ 0 ∷ []) (insert lens 0 1) (insert visible 0 1) (home ++ 0 ∷ []) (flags ++ false ∷ [])
BlocksInvariant-first pool order index lens visible home flags kept none =
    let no_blocks = ap (λ (z : List (List ℕ)). length z) none in
    let size = length-blocks_in_order pool order in
    let counts = many_kept pool order index lens visible home flags kept in
    let no_numbers = ap (λ (z : List (List ℕ)). length (concat_blocks z)) none in
    let o : order ≡ [] = nothing order (omega arith) in
    let p : pool ≡ [] = nothing pool (let m = kept.blocks.ordered.many in omega arith) in
    let i : index ≡ [] = nothing index (let m = kept.many in omega arith) in
    let l : lens ≡ [] = nothing lens (omega arith) in
    let v : visible ≡ [] = nothing visible (omega arith) in
    let f : flags ≡ [] = nothing flags (let m = kept.blocks.numbered.many in omega arith) in
    let h : home ≡ [] = nothing home (let m = kept.blocks.homes in let n = kept.blocks.numbered.many in omega arith) in
    rw (p, o, i, l, v, h, f) first_block
