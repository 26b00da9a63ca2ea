use Rattle.std.proofs.Common.{◌∙◌, [], ◌∷◌, refl, arith}
use Rattle.tp_digest.proofs.Lanewise.{in_each}
use Rattle.tp_digest.proofs.Hashing.{begins, goes_on, all_ended, hash_begun}
use Rattle.tp_digest.proofs.four.side_by_side.Goals as goal

pub loop-i-init : goal.loop-i-init
loop-i-init c =
    begins (c.args.first.now.message.now ∷ c.args.second.now.message.now ∷ c.args.third.now.message.now
    ∷ c.args.fourth.now.message.now ∷ []) _ c.initial-state.result _ refl
    (in_each _ c.blocks-2.ensures.count c.blocks-3.ensures.count c.blocks-4.ensures.count c.blocks-5.ensures.count)
    (λ k h. c.initial-state.ensures k h ∙ hash_begun _)

pub loop-i-preserved : goal.loop-i-preserved
loop-i-preserved c =
    let ms = c.args.first.now.message.now ∷ c.args.second.now.message.now ∷ c.args.third.now.message.now
    ∷ c.args.fourth.now.message.now ∷ [] in
    goes_on ms _ c.loop-i.state _ c.loop-i.digests _ (c.block.result ∷ c.block-in-loop-i.result
    ∷ c.block-in-loop-i-2.result ∷ c.block-in-loop-i-3.result ∷ []) c.loop-i.i c.loop-i.invariant
    (in_each _ c.blocks-2.ensures.count c.blocks-3.ensures.count c.blocks-4.ensures.count c.blocks-5.ensures.count)
    (in_each _ c.block.ensures c.block-in-loop-i.ensures c.block-in-loop-i-2.ensures c.block-in-loop-i-3.ensures)
    c.after_blocks-state.ensures c.write_ended.ensures.ended c.write_ended.ensures.others c.write_ended.array_long

pub returns : goal.returns
returns c =
    all_ended _ _ _ _ _ c.loop-i.state _ c.loop-i.i c.loop-i.invariant
    (λ k h. omega (arith, c.longest_of-i-end.ensures k h))
