use Rattle.tp_sync.proofs.Common.{marks_since}
use Rattle.tp_sync.proofs.NextLaws.{next_tells_before}
use Rattle.tp_sync.proofs.due.is_any_before.Goals as goal

pub returns : goal.returns
returns c = λ H K is. next_tells_before (marks_since c.args.graph.now.applied H K) c.args.place c.next_outside_before.result (c.next_outside_before.ensures H K is)
