use Rattle.tp_frame.proofs.JoinLaws.{framed}
use Rattle.tp_frame.proofs.framer.Framer.next.Goals as goal

pub returns-clause-frame : goal.returns-clause-frame
returns-clause-frame c =
    rw (← c.self.view_is) (framed c.self.inside.joiner.came.bytes c.next.result c.next.new.self.came.bytes c.self.invariant.bytes c.next.ensures.exact)
