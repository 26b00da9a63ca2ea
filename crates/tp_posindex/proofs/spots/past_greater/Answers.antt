use Rattle.std.proofs.Common.{◌≡◌, ◌<◌, ◌≤◌, ◌+◌, suc, ℕ, List, length, sym, ◌∙◌, ap, subst, arith}
use Rattle.std.specs.List.{AllWithin, HoldsAt}
use Rattle.tp_opid.specs.Order.{Below}
use Rattle.tp_elements.specs.Came.{element_at}
use Rattle.tp_posindex.specs.Layout.{concat_blocks, block_at, index_at}
use Rattle.tp_posindex.proofs.Joining.{index_at-within, index_at-next}
use Rattle.tp_posindex.proofs.Seeking.{AllWithin-empty, AllWithin-prefix, AllWithin-join, AllWithin-concat_blocks, HoldsAt-concat_blocks, gap_within, index_at-past}
use Rattle.tp_posindex.proofs.spots.past_greater.Goals as goal

pub loop-block-init : goal.loop-block-init
loop-block-init c =
    let P : ℕ → Type 0 = λ k. Below c.args.id.now (element_at c.args.entries.now.items k).id in
    let bs = c.args.blocks.now.blocks in
    ((λ lt. c.requires.from.offset_in), omega arith, AllWithin-empty P (concat_blocks bs) (index_at bs c.args.from.block c.args.from.offset))

pub past_greater_in-stop-requires-clause-from : goal.past_greater_in-stop-requires-clause-from
past_greater_in-stop-requires-clause-from c =
    let bs = c.args.blocks.now.blocks in
    let p = c.loop-block.block in
    let lt : p < length bs = omega (arith, c.count-block-end.ensures.count) in
    let size : length c.block-numbers.result.now ≡ length (block_at bs p) = ap (λ (z : List ℕ). length z) c.block-numbers.ensures.value in
    let within = c.loop-block.invariant.0 lt in
    omega (arith, within, size)

pub returns-then-stop-numbers-clause-from : goal.returns-then-stop-numbers-clause-from
returns-then-stop-numbers-clause-from c = omega (arith, c.loop-block.invariant.1, c.past_greater_in-stop.ensures.from)

pub returns-then-stop-numbers-clause-within : goal.returns-then-stop-numbers-clause-within
returns-then-stop-numbers-clause-within c =
    let bs = c.args.blocks.now.blocks in
    let p = c.loop-block.block in
    let stop = c.past_greater_in-stop.result in
    let lt : p < length bs = omega (arith, c.count-block-end.ensures.count) in
    let size : length c.block-numbers.result.now ≡ length (block_at bs p) = ap (λ (z : List ℕ). length z) c.block-numbers.ensures.value in
    index_at-within bs p stop lt (omega (arith, size, c.past_greater_in-stop.ensures.within))

pub returns-then-stop-numbers-clause-passed : goal.returns-then-stop-numbers-clause-passed
returns-then-stop-numbers-clause-passed c =
    let bs = c.args.blocks.now.blocks in
    let p = c.loop-block.block in
    let stop = c.past_greater_in-stop.result in
    let lt : p < length bs = omega (arith, c.count-block-end.ensures.count) in
    let size : length c.block-numbers.result.now ≡ length (block_at bs p) = ap (λ (z : List ℕ). length z) c.block-numbers.ensures.value in
    let P : ℕ → Type 0 = λ k. Below c.args.id.now (element_at c.args.entries.now.items k).id in
    let passed : AllWithin P (block_at bs p) c.loop-block.offset stop = subst (λ (z : List ℕ). AllWithin P z c.loop-block.offset stop) c.block-numbers.ensures.value c.past_greater_in-stop.ensures.passed in
    let here = AllWithin-concat_blocks P bs p c.loop-block.offset stop lt (omega (arith, size, c.past_greater_in-stop.ensures.within)) passed in
    let all = AllWithin-join P (concat_blocks bs) (index_at bs c.args.from.block c.args.from.offset) (index_at bs p c.loop-block.offset) (index_at bs p stop) c.loop-block.invariant.2 here in
    all

pub returns-then-stop-numbers-clause-stops : goal.returns-then-stop-numbers-clause-stops
returns-then-stop-numbers-clause-stops c =
    let bs = c.args.blocks.now.blocks in
    let p = c.loop-block.block in
    let stop = c.past_greater_in-stop.result in
    let lt : p < length bs = omega (arith, c.count-block-end.ensures.count) in
    let size : length c.block-numbers.result.now ≡ length (block_at bs p) = ap (λ (z : List ℕ). length z) c.block-numbers.ensures.value in
    let Q : ℕ → Type 0 = λ k. Below c.args.id.now (element_at c.args.entries.now.items k).id → ⊥ in
    let held : HoldsAt Q (block_at bs p) stop = subst (λ (z : List ℕ). HoldsAt Q z stop) c.block-numbers.ensures.value (c.past_greater_in-stop.ensures.stops c.if-stop-numbers.true) in
    let at = HoldsAt-concat_blocks Q bs p stop lt (omega (arith, size, c.if-stop-numbers.true)) held in
    λ short. at

pub loop-block-preserved : goal.loop-block-preserved
loop-block-preserved c =
    let bs = c.args.blocks.now.blocks in
    let p = c.loop-block.block in
    let stop = c.past_greater_in-stop.result in
    let lt : p < length bs = omega (arith, c.count-block-end.ensures.count) in
    let size : length c.block-numbers.result.now ≡ length (block_at bs p) = ap (λ (z : List ℕ). length z) c.block-numbers.ensures.value in
    let P : ℕ → Type 0 = λ k. Below c.args.id.now (element_at c.args.entries.now.items k).id in
    let passed : AllWithin P (block_at bs p) c.loop-block.offset stop = subst (λ (z : List ℕ). AllWithin P z c.loop-block.offset stop) c.block-numbers.ensures.value c.past_greater_in-stop.ensures.passed in
    let here = AllWithin-concat_blocks P bs p c.loop-block.offset stop lt (omega (arith, size, c.past_greater_in-stop.ensures.within)) passed in
    let all = AllWithin-join P (concat_blocks bs) (index_at bs c.args.from.block c.args.from.offset) (index_at bs p c.loop-block.offset) (index_at bs p stop) c.loop-block.invariant.2 here in
    let up : p + 1 ≡ suc p = omega arith in
    let whole : stop ≡ length (block_at bs p) = omega (arith, size, c.past_greater_in-stop.ensures.within, c.if-stop-numbers.false) in
    let next : index_at bs (p + 1) 0 ≡ index_at bs p stop = ap (λ n. index_at bs n 0) up ∙ index_at-next bs p lt ∙ ap (index_at bs p) (sym whole) in
    let from = c.loop-block.invariant.1 in
    let more = c.past_greater_in-stop.ensures.from in
    let low : index_at bs c.args.from.block c.args.from.offset ≤ index_at bs p stop = omega (arith, from, more) in
    ((λ lt'. omega arith), subst (λ n. index_at bs c.args.from.block c.args.from.offset ≤ n) (sym next) low, subst (AllWithin P (concat_blocks bs) (index_at bs c.args.from.block c.args.from.offset)) (sym next) all)

pub returns-clause-from : goal.returns-clause-from
returns-clause-from c =
    let within = gap_within c.args.blocks.now.blocks c.args.from.block c.args.from.offset c.requires.from in
    omega (arith, within, c.end.ensures.end)

pub returns-clause-passed : goal.returns-clause-passed
returns-clause-passed c =
    let P : ℕ → Type 0 = λ k. Below c.args.id.now (element_at c.args.entries.now.items k).id in
    let bs = c.args.blocks.now.blocks in
    let past = index_at-past bs c.loop-block.block c.loop-block.offset (omega (arith, c.count-block-end.ensures.count)) in
    AllWithin-prefix P (concat_blocks bs) (index_at bs c.args.from.block c.args.from.offset) (index_at bs c.loop-block.block c.loop-block.offset) (index_at bs c.end.result.block c.end.result.offset) (omega (arith, past, c.end.ensures.end)) c.loop-block.invariant.2
