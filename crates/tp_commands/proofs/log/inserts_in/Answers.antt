use Rattle.std.proofs.Common.{arith}
use Rattle.tp_commands.proofs.LogLines.{counts_are}
use Rattle.tp_commands.proofs.log.inserts_in.Goals as goal

pub overflow_sub-result : goal.overflow_sub-result
overflow_sub-result c = omega (arith, counts_are c.args.change.now)

pub returns : goal.returns
returns c = omega (arith, counts_are c.args.change.now)
