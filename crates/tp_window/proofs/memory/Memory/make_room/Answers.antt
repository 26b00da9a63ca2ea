use Rattle.std.proofs.Common.{arith, refl}
use Rattle.tp_window.proofs.NumberLaws.{forgot_before, forgot_stays}
use Rattle.tp_window.proofs.memory.Memory.make_room.Goals as goal

pub returns-then-len-ge-MOST_KEPT-clause-before : goal.returns-then-len-ge-MOST_KEPT-clause-before
returns-then-len-ge-MOST_KEPT-clause-before c n H = forgot_before c.args.self.now _ n H refl c.remove.ensures.items

pub returns-then-len-ge-MOST_KEPT-clause-stay : goal.returns-then-len-ge-MOST_KEPT-clause-stay
returns-then-len-ge-MOST_KEPT-clause-stay c n H = forgot_stays c.args.self.now _ n _ H refl c.remove.ensures.items (omega arith)
