-- A list is what its elements are.
use Rattle.std.proofs.Common.{rules, arith}
use Rattle.tp_hmac.proofs.Blocks.{all_padded, one_more}
use Rattle.tp_hmac.proofs.hmac.padded_with.Goals as goal

pub loop-i-preserved : goal.loop-i-preserved
loop-i-preserved c = (search rules, one_more c.loop-i.out c.args.block.now c.args.pad c.loop-i.i (omega (arith, c.loop-i.invariant.0)) c.loop-i.invariant.1)

pub returns : goal.returns
returns c = all_padded c.loop-i.out c.args.block.now c.args.pad c.loop-i.invariant.0 c.told-block
    (λ k lt. c.loop-i.invariant.1 k (omega arith))
