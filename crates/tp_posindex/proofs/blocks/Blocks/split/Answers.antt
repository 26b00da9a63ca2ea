use Rattle.std.proofs.Common.{◌≡◌, ◌<◌, ◌+◌, suc, ℕ, List, Bool, [], ◌∷◌, ◌++◌, true, not, take, drop, insert, map, length, length-append, get_or, sym, ◌∙◌, ap, subst, arith, refl}
use Rattle.std.specs.Result.{is_ok}
use Rattle.tp_list.specs.Members.{In}
use Rattle.tp_elements.proofs.Lists.{length-inserted, get_or-any}
use Rattle.tp_posindex.specs.Laid.{Layout, IsNumbered, blocks_in_order, count_visible}
use Rattle.tp_posindex.specs.Kept.{AreIndexed}
use Rattle.tp_posindex.specs.Layout.{block_at}
use Rattle.tp_posindex.proofs.Joining.{cut_at, length-concat_blocks}
use Rattle.tp_posindex.proofs.Laying.{PoolInvariant-split, IsNumbered-insert, laid_split, order_within, block_read, length-blocks_in_order, half_below, half_count, written_whole, count-le}
use Rattle.tp_posindex.proofs.Keeping.{many_kept, indexed_before, measured_cut}
use Rattle.tp_posindex.proofs.blocks.Blocks.split.Goals as goal

pub overflow_cast-back : goal.overflow_cast-back
overflow_cast-back c =
    let s = c.self.inside in
    let at : c.args.index < length s.order.items = omega (arith, length-blocks_in_order s.pool.items s.order.items, ap (λ (v : Layout). length v.blocks) c.self.view_is, c.requires.block) in
    let some = length-concat_blocks (blocks_in_order s.pool.items s.order.items) c.self.invariant.blocks.sized.some in
    let many = c.self.invariant.blocks.numbered.many in
    let blocks = length-blocks_in_order s.pool.items s.order.items in
    let room = subst (λ (v : Layout). 0 < v.slots) (sym c.self.view_is) c.requires.slots in
    omega (arith, some, many, blocks, room)

pub index_mut-block-requires : goal.index_mut-block-requires
index_mut-block-requires c =
    let s = c.self.inside in
    let at : c.args.index < length s.order.items = omega (arith, length-blocks_in_order s.pool.items s.order.items, ap (λ (v : Layout). length v.blocks) c.self.view_is, c.requires.block) in
    let within = order_within s.pool.items s.order.items c.args.index c.index-prefix.result.now c.self.invariant.blocks.ordered at c.index-prefix.ensures in
    omega (arith, within)

pub split-half-requires : goal.split-half-requires
split-half-requires c =
    let s = c.self.inside in
    let at : c.args.index < length s.order.items = omega (arith, length-blocks_in_order s.pool.items s.order.items, ap (λ (v : Layout). length v.blocks) c.self.view_is, c.requires.block) in
    let read = block_read s.pool.items s.order.items c.args.index c.index-prefix.result.now c.index_mut-block.result.now c.self.invariant.blocks.ordered at c.index-prefix.ensures c.index_mut-block.ensures.value ∙ ap (λ (v : Layout). block_at v.blocks c.args.index) c.self.view_is in
    ap length read ∙ c.requires.full

pub count_down-count-requires : goal.count_down-count-requires
count_down-count-requires c =
    let s = c.self.inside in
    let bs = blocks_in_order s.pool.items s.order.items in
    let at : c.args.index < length s.order.items = omega (arith, length-blocks_in_order s.pool.items s.order.items, ap (λ (v : Layout). length v.blocks) c.self.view_is, c.requires.block) in
    let at_bs : c.args.index < length bs = omega (arith, length-blocks_in_order s.pool.items s.order.items) in
    let read = block_read s.pool.items s.order.items c.args.index c.index-prefix.result.now c.index_mut-block.result.now c.self.invariant.blocks.ordered at c.index-prefix.ensures c.index_mut-block.ensures.value in
    let half_is : c.split-half.result ≡ drop 64 (block_at bs c.args.index) = c.split-half.ensures.back ∙ ap (drop 64) read in
    let numbers_is : c.numbers.result.now ≡ drop 64 (block_at bs c.args.index) = c.numbers.ensures.value ∙ half_is in
    subst (λ (z : List Bool). (k d : ℕ) → k < length c.numbers.result.now → get_or c.numbers.result.now k d < length z) (sym c.deref.ensures.value) (half_below (length s.deleted.items) bs c.args.index c.numbers.result.now c.self.invariant.blocks.numbered at_bs numbers_is)

pub overflow_cast-count : goal.overflow_cast-count
overflow_cast-count c =
    let le = count-le c.deref.result.now c.numbers.result.now in
    omega (arith, le, c.count_down-count.ensures, c.numbers.ensures.few, ap (λ (z : List ℕ). length z) c.numbers.ensures.value)

pub rename-requires : goal.rename-requires
rename-requires c =
    let s = c.self.inside in
    let bs = blocks_in_order s.pool.items s.order.items in
    let at : c.args.index < length s.order.items = omega (arith, length-blocks_in_order s.pool.items s.order.items, ap (λ (v : Layout). length v.blocks) c.self.view_is, c.requires.block) in
    let at_bs : c.args.index < length bs = omega (arith, length-blocks_in_order s.pool.items s.order.items) in
    let read = block_read s.pool.items s.order.items c.args.index c.index-prefix.result.now c.index_mut-block.result.now c.self.invariant.blocks.ordered at c.index-prefix.ensures c.index_mut-block.ensures.value in
    let half_is : c.split-half.result ≡ drop 64 (block_at bs c.args.index) = c.split-half.ensures.back ∙ ap (drop 64) read in
    let numbers_is : c.numbers-2.result.now ≡ drop 64 (block_at bs c.args.index) = c.numbers-2.ensures.value ∙ half_is in
    let homes : length c.deref_mut.result.now ≡ length s.deleted.items = ap (λ (z : List ℕ). length z) c.deref_mut.ensures.value ∙ c.self.invariant.blocks.homes in
    subst (λ (n : ℕ). (k d : ℕ) → k < length c.numbers-2.result.now → get_or c.numbers-2.result.now k d < n) (sym homes) (half_below (length s.deleted.items) bs c.args.index c.numbers-2.result.now c.self.invariant.blocks.numbered at_bs numbers_is)

pub split-requires-2-clause-enough : goal.split-requires-2-clause-enough
split-requires-2-clause-enough c =
    let s = c.self.inside in
    let bs = blocks_in_order s.pool.items s.order.items in
    let at : c.args.index < length s.order.items = omega (arith, length-blocks_in_order s.pool.items s.order.items, ap (λ (v : Layout). length v.blocks) c.self.view_is, c.requires.block) in
    let read = block_read s.pool.items s.order.items c.args.index c.index-prefix.result.now c.index_mut-block.result.now c.self.invariant.blocks.ordered at c.index-prefix.ensures c.index_mut-block.ensures.value in
    let half_is : c.split-half.result ≡ drop 64 (block_at bs c.args.index) = c.split-half.ensures.back ∙ ap (drop 64) read in
    let numbers_is : c.numbers.result.now ≡ drop 64 (block_at bs c.args.index) = c.numbers.ensures.value ∙ half_is in
    let many = many_kept s.pool.items s.order.items s.index.items s.lens.counts s.visible.counts s.home.items s.deleted.items c.self.invariant in
    let v = get_or s.visible.counts c.args.index 0 in
    let v_is : v ≡ get_or s.visible.counts c.args.index v = get_or-any s.visible.counts c.args.index 0 v (omega (arith, many.1, length-blocks_in_order s.pool.items s.order.items)) in
    let le = half_count s.pool.items s.order.items s.visible.counts s.home.items s.deleted.items c.args.index v c.numbers.result.now c.self.invariant.blocks at v_is numbers_is in
    let count : c.count_down-count.result ≡ count_visible s.deleted.items c.numbers.result.now = c.count_down-count.ensures ∙ ap (λ (z : List Bool). count_visible z c.numbers.result.now) c.deref.ensures.value in
    omega (arith, le, count)

pub renumber-requires-clause-few : goal.renumber-requires-clause-few
renumber-requires-clause-few c =
    let s = c.self.inside in
    let order = s.order.items in
    let index = s.index.items in
    let kept = c.self.invariant.blocks in
    let at : c.args.index < length order = omega (arith, length-blocks_in_order s.pool.items order, ap (λ (v : Layout). length v.blocks) c.self.view_is, c.requires.block) in
    let placed : is_ok c.insert.result ≡ true = c.is_err-else-is_err.ensures.negation ∙ ap not c.if-is_err-2.false in
    let indexed : is_ok c.push-else-is_err-2.result ≡ true = c.is_err-else-is_err-2.ensures.negation ∙ ap not c.if-is_err-3.false in
    let last : c.len-back.result ≡ length order = omega arith in
    let order_is : c.deref-2.result.now ≡ insert order (c.args.index + 1) c.len-back.result = c.deref-2.ensures.value ∙ rw placed at c.insert.ensures.items in
    let index_is : c.deref_mut-2.result.now ≡ index ++ c.len-back.result ∷ [] = c.deref_mut-2.ensures.value ∙ rw indexed at c.push-else-is_err-2.ensures.items in
    let some = length-concat_blocks (blocks_in_order s.pool.items order) kept.sized.some in
    let many = kept.numbered.many in
    let blocks = length-blocks_in_order s.pool.items order in
    let room = subst (λ (v : Layout). 0 < v.slots) (sym c.self.view_is) c.requires.slots in
    let size = ap (λ (z : List ℕ). length z) order_is ∙ length-inserted order (c.args.index + 1) c.len-back.result in
    omega (arith, some, many, blocks, room, size)

pub renumber-requires-clause-ordered : goal.renumber-requires-clause-ordered
renumber-requires-clause-ordered c =
    let s = c.self.inside in
    let order = s.order.items in
    let index = s.index.items in
    let kept = c.self.invariant.blocks in
    let at : c.args.index < length order = omega (arith, length-blocks_in_order s.pool.items order, ap (λ (v : Layout). length v.blocks) c.self.view_is, c.requires.block) in
    let placed : is_ok c.insert.result ≡ true = c.is_err-else-is_err.ensures.negation ∙ ap not c.if-is_err-2.false in
    let indexed : is_ok c.push-else-is_err-2.result ≡ true = c.is_err-else-is_err-2.ensures.negation ∙ ap not c.if-is_err-3.false in
    let last : c.len-back.result ≡ length order = omega arith in
    let order_is : c.deref-2.result.now ≡ insert order (c.args.index + 1) c.len-back.result = c.deref-2.ensures.value ∙ rw placed at c.insert.ensures.items in
    let index_is : c.deref_mut-2.result.now ≡ index ++ c.len-back.result ∷ [] = c.deref_mut-2.ensures.value ∙ rw indexed at c.push-else-is_err-2.ensures.items in
    let pool_many : c.len-back.result ≡ length s.pool.items = last ∙ kept.ordered.many in
    let size : length c.deref_mut-2.result.now ≡ suc (length s.pool.items) = ap (λ (z : List ℕ). length z) index_is ∙ length-append index (c.len-back.result ∷ []) ∙ omega (arith, c.self.invariant.many, kept.ordered.many) in
    let more = subst (λ n. IsNumbered (suc (length s.pool.items)) (insert order (c.args.index + 1) n)) (sym pool_many) (IsNumbered-insert (length s.pool.items) order (c.args.index + 1) kept.ordered) in
    subst (λ n. IsNumbered n c.deref-2.result.now) (sym size) (subst (IsNumbered (suc (length s.pool.items))) (sym order_is) more)

pub renumber-requires-clause-before : goal.renumber-requires-clause-before
renumber-requires-clause-before c = λ p less.
    let s = c.self.inside in
    let order = s.order.items in
    let index = s.index.items in
    let kept = c.self.invariant.blocks in
    let at : c.args.index < length order = omega (arith, length-blocks_in_order s.pool.items order, ap (λ (v : Layout). length v.blocks) c.self.view_is, c.requires.block) in
    let placed : is_ok c.insert.result ≡ true = c.is_err-else-is_err.ensures.negation ∙ ap not c.if-is_err-2.false in
    let indexed : is_ok c.push-else-is_err-2.result ≡ true = c.is_err-else-is_err-2.ensures.negation ∙ ap not c.if-is_err-3.false in
    let last : c.len-back.result ≡ length order = omega arith in
    let order_is : c.deref-2.result.now ≡ insert order (c.args.index + 1) c.len-back.result = c.deref-2.ensures.value ∙ rw placed at c.insert.ensures.items in
    let index_is : c.deref_mut-2.result.now ≡ index ++ c.len-back.result ∷ [] = c.deref_mut-2.ensures.value ∙ rw indexed at c.push-else-is_err-2.ensures.items in
    let ordered = subst (λ n. IsNumbered n order) (sym kept.ordered.many) kept.ordered in
    ap (λ (z : List ℕ). get_or z (get_or c.deref-2.result.now p 0) 0) index_is
    ∙ ap (λ (z : List ℕ). get_or (index ++ c.len-back.result ∷ []) (get_or z p 0) 0) order_is
    ∙ indexed_before order index (c.args.index + 1) c.len-back.result c.len-back.result ordered c.self.invariant.many c.self.invariant.indexed (omega arith) p less

pub invariant_of-self : goal.invariant_of-self
invariant_of-self c =
    let s = c.self.inside in
    let bs = blocks_in_order s.pool.items s.order.items in
    let at : c.args.index < length s.order.items = omega (arith, length-blocks_in_order s.pool.items s.order.items, ap (λ (v : Layout). length v.blocks) c.self.view_is, c.requires.block) in
    let at_bs : c.args.index < length bs = omega (arith, length-blocks_in_order s.pool.items s.order.items) in
    let read = block_read s.pool.items s.order.items c.args.index c.index-prefix.result.now c.index_mut-block.result.now c.self.invariant.blocks.ordered at c.index-prefix.ensures c.index_mut-block.ensures.value in
    let half_is : c.split-half.result ≡ drop 64 (block_at bs c.args.index) = c.split-half.ensures.back ∙ ap (drop 64) read in
    let in_pool = order_within s.pool.items s.order.items c.args.index c.index-prefix.result.now c.self.invariant.blocks.ordered at c.index-prefix.ensures in
    let held : c.index_mut-block.result.now ≡ block_at s.pool.items c.index-prefix.result.now = c.index_mut-block.ensures.value ∙ get_or-any s.pool.items c.index-prefix.result.now c.index_mut-block.result.now [] in_pool in
    let pushed : is_ok c.push.result ≡ true = c.is_err.ensures.negation ∙ ap not c.if-is_err.false in
    let placed : is_ok c.insert.result ≡ true = c.is_err-else-is_err.ensures.negation ∙ ap not c.if-is_err-2.false in
    let indexed : is_ok c.push-else-is_err-2.result ≡ true = c.is_err-else-is_err-2.ensures.negation ∙ ap not c.if-is_err-3.false in
    let pool_is = rw pushed at c.push.ensures.items in
    let order_is = rw placed at c.insert.ensures.items in
    let pushed_index = rw indexed at c.push-else-is_err-2.ensures.items in
    let next : c.args.index + 1 ≡ suc c.args.index = omega arith in
    let last : c.len-back.result ≡ length s.order.items = omega arith in
    let homes : length c.rename.new.home ≡ length s.home.items = c.rename.auto.home ∙ ap (λ (z : List ℕ). length z) c.deref_mut.ensures.value in
    let home_is : take s.home.len (c.rename.new.home ++ drop (length c.rename.new.home) s.home.items) ≡ c.rename.new.home = written_whole c.rename.new.home s.home.items s.home.len homes (omega arith) in
    let count : c.count_down-count.result ≡ count_visible s.deleted.items c.split-half.result = c.count_down-count.ensures ∙ ap (λ (z : List Bool). count_visible z c.numbers.result.now) c.deref.ensures.value ∙ ap (count_visible s.deleted.items) c.numbers.ensures.value in
    let full : length (block_at s.pool.items c.index-prefix.result.now) ≡ 128 = ap (λ (z : List ℕ). length z) (sym held ∙ read) ∙ ap (λ (v : Layout). length (block_at v.blocks c.args.index)) c.self.view_is ∙ c.requires.full in
    let renamed : (k : ℕ) → In k c.split-half.result → get_or c.rename.new.home k 0 ≡ c.len-back.result = (λ k i. c.rename.ensures.renamed k (subst (In k) (sym c.numbers-2.ensures.value) i)) in
    let others : (k : ℕ) → (In k c.split-half.result → ⊥) → get_or c.rename.new.home k 0 ≡ get_or s.home.items k 0 = (λ k n. c.rename.ensures.others k (λ i. n (subst (In k) c.numbers-2.ensures.value i)) ∙ ap (λ (z : List ℕ). get_or z k 0) c.deref_mut.ensures.value) in
    let many = many_kept s.pool.items s.order.items s.index.items s.lens.counts s.visible.counts s.home.items s.deleted.items c.self.invariant in
    let v = get_or s.visible.counts c.args.index 0 in
    let v_is : v ≡ get_or s.visible.counts c.args.index v = get_or-any s.visible.counts c.args.index 0 v (omega (arith, many.1, length-blocks_in_order s.pool.items s.order.items)) in
    let prefix : c.split-half.new.self ≡ take 64 (block_at s.pool.items c.index-prefix.result.now) = c.split-half.ensures.prefix ∙ ap (take 64) held in
    let back : c.split-half.result ≡ drop 64 (block_at s.pool.items c.index-prefix.result.now) = c.split-half.ensures.back ∙ ap (drop 64) held in
    let full_at : length (block_at bs c.args.index) ≡ 128 = ap (λ (v : Layout). length (block_at v.blocks c.args.index)) c.self.view_is ∙ c.requires.full in
    let order_now : c.deref-2.result.now ≡ insert s.order.items (c.args.index + 1) c.len-back.result = c.deref-2.ensures.value ∙ order_is in
    let index_now : c.deref_mut-2.result.now ≡ s.index.items ++ c.len-back.result ∷ [] = c.deref_mut-2.ensures.value ∙ pushed_index in
    let sizes : length c.renumber.new.index ≡ length c.push-else-is_err-2.new.self.items = c.renumber.auto.index ∙ ap (λ (z : List ℕ). length z) c.deref_mut-2.ensures.value in
    let index_is : take c.push-else-is_err-2.new.self.len (c.renumber.new.index ++ drop (length c.renumber.new.index) c.push-else-is_err-2.new.self.items) ≡ c.renumber.new.index = written_whole c.renumber.new.index c.push-else-is_err-2.new.self.items c.push-else-is_err-2.new.self.len sizes (omega arith) in
    let cut = laid_split s.pool.items s.order.items c.args.index (c.args.index + 1) c.index-prefix.result.now c.len-back.result c.split-half.new.self c.split-half.result c.self.invariant.blocks.ordered at next c.index-prefix.ensures last prefix back in
    rw (pool_is, order_is, home_is, index_is, c.split.ensures.counts, c.split-2.ensures.counts) (record {
      blocks = PoolInvariant-split s.pool.items s.order.items s.visible.counts s.home.items c.rename.new.home s.deleted.items c.args.index (c.args.index + 1) c.index-prefix.result.now c.len-back.result v c.count_down-count.result c.split-half.new.self c.split-half.result c.self.invariant.blocks at next c.index-prefix.ensures last v_is count prefix back full homes renamed others;
      many = sizes ∙ ap (λ (z : List ℕ). length z) pushed_index ∙ length-append s.index.items (c.len-back.result ∷ []) ∙ omega (arith, c.self.invariant.many, length-inserted s.order.items (c.args.index + 1) c.len-back.result);
      indexed = subst (λ (z : List ℕ). AreIndexed z c.renumber.new.index) order_now c.renumber.ensures;
      measured = measured_cut bs s.lens.counts c.args.index c.self.invariant.measured at_bs full_at ∙ ap (map (λ (z : List ℕ). length z)) (sym cut);
    })

pub returns-clause-blocks : goal.returns-clause-blocks
returns-clause-blocks c =
    let s = c.self.inside in
    let bs = blocks_in_order s.pool.items s.order.items in
    let at : c.args.index < length s.order.items = omega (arith, length-blocks_in_order s.pool.items s.order.items, ap (λ (v : Layout). length v.blocks) c.self.view_is, c.requires.block) in
    let at_bs : c.args.index < length bs = omega (arith, length-blocks_in_order s.pool.items s.order.items) in
    let read = block_read s.pool.items s.order.items c.args.index c.index-prefix.result.now c.index_mut-block.result.now c.self.invariant.blocks.ordered at c.index-prefix.ensures c.index_mut-block.ensures.value in
    let half_is : c.split-half.result ≡ drop 64 (block_at bs c.args.index) = c.split-half.ensures.back ∙ ap (drop 64) read in
    let in_pool = order_within s.pool.items s.order.items c.args.index c.index-prefix.result.now c.self.invariant.blocks.ordered at c.index-prefix.ensures in
    let held : c.index_mut-block.result.now ≡ block_at s.pool.items c.index-prefix.result.now = c.index_mut-block.ensures.value ∙ get_or-any s.pool.items c.index-prefix.result.now c.index_mut-block.result.now [] in_pool in
    let pushed : is_ok c.push.result ≡ true = c.is_err.ensures.negation ∙ ap not c.if-is_err.false in
    let placed : is_ok c.insert.result ≡ true = c.is_err-else-is_err.ensures.negation ∙ ap not c.if-is_err-2.false in
    let pool_is = rw pushed at c.push.ensures.items in
    let order_is = rw placed at c.insert.ensures.items in
    let next : c.args.index + 1 ≡ suc c.args.index = omega arith in
    let last : c.len-back.result ≡ length s.order.items = omega arith in
    let cut = laid_split s.pool.items s.order.items c.args.index (suc c.args.index) c.index-prefix.result.now c.len-back.result c.split-half.new.self c.split-half.result c.self.invariant.blocks.ordered at refl c.index-prefix.ensures last (c.split-half.ensures.prefix ∙ ap (take 64) held) (c.split-half.ensures.back ∙ ap (drop 64) held) in
    rw (pool_is, order_is, next) (cut ∙ ap (λ (v : Layout). cut_at v.blocks c.args.index 64) c.self.view_is)
