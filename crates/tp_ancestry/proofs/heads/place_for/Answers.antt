use Rattle.tp_ancestry.proofs.Common.{◌≤◌, sym, length, arith}
use Rattle.tp_history.proofs.HeadsLaws.{put-less, put-equal, put-greater, put-last}
use Rattle.tp_ancestry.proofs.heads.place_for.Goals as goal

pub returns-in-Less : goal.returns-in-Less
returns-in-Less c =
    let within : c.loop-i.i ≤ length c.args.heads.now = omega arith in
    (within, put-less c.args.hash.now c.args.heads.now c.loop-i.i _ c.loop-i-test.true c.loop-i.invariant (sym c.in-Less.ensures))

pub returns-in-Equal : goal.returns-in-Equal
returns-in-Equal c = put-equal c.args.hash.now c.args.heads.now c.loop-i.i _ c.loop-i-test.true c.loop-i.invariant (sym c.in-Equal.ensures)

pub loop-i-preserved : goal.loop-i-preserved
loop-i-preserved c = put-greater c.args.hash.now c.args.heads.now c.loop-i.i _ c.loop-i-test.true c.loop-i.invariant (sym c.in-Greater.ensures)

pub returns : goal.returns
returns c = (omega arith, put-last c.args.hash.now c.args.heads.now c.loop-i.i c.loop-i-test.false c.loop-i.invariant)
