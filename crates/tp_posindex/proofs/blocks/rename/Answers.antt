use Rattle.std.proofs.Common.{arith}
use Rattle.tp_posindex.proofs.Laying.{renamed_more}
use Rattle.tp_posindex.proofs.blocks.rename.Goals as goal

pub loop-number-preserved : goal.loop-number-preserved
loop-number-preserved c =
    let i = c.loop-number.number-index in
    let ks = c.args.numbers.now in
    let within = c.requires i 0 c.loop-number-test.true in
    renamed_more c.loop-number.home c.args.home.now ks i c.args.block c.loop-number-test.true (omega (arith, within)) c.loop-number.invariant.0 c.loop-number.invariant.1
