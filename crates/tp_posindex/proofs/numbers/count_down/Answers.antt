use Rattle.std.proofs.Common.{arith, take, length-take}
use Rattle.tp_posindex.proofs.Laying.{count-le}
use Rattle.tp_posindex.proofs.numbers.count_down.Goals as goal

pub overflow_add-count : goal.overflow_add-count
overflow_add-count c =
    let ks = c.args.numbers.now in
    let le = count-le c.args.flags.now (take c.loop-number.number-index ks) in
    omega (arith, le, length-take c.loop-number.number-index ks, c.loop-number.invariant)
