use Rattle.tp_history.proofs.Common.{arith}
use Rattle.tp_history.proofs.index.slots_for.Goals as goal

pub returns-clause-most : goal.returns-clause-most
returns-clause-most c = omega (arith, c.max.ensures, c.next_power_of_two.ensures.upper_bound)
