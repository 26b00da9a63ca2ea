use Rattle.std.proofs.Common.{arith}
use Rattle.std.proofs.lemmas.List.{at_drop_all}
use Rattle.tp_layout.specs.Counts.{count_of}
use Rattle.tp_layout.proofs.Counts.{count_of_drop}
use Rattle.tp_change.proofs.counting.count_ops.Goals as goal

pub overflow_add-total : goal.overflow_add-total
overflow_add-total c =
    let split = count_of_drop _ _ _ c.loop-entry-test.true c.entry-item.is in
    omega (arith, split)

pub loop-entry-preserved : goal.loop-entry-preserved
loop-entry-preserved c =
    let split = count_of_drop _ _ _ c.loop-entry-test.true c.entry-item.is in
    omega (arith, split)

pub returns : goal.returns
returns c =
    let none = at_drop_all count_of _ _ c.loop-entry-test.false in
    omega (arith, none)
