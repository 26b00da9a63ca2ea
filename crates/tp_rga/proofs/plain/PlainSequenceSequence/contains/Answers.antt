use Rattle.tp_rga.proofs.Lookups.{IsThere-test}
use Rattle.tp_rga.proofs.plain.PlainSequenceSequence.contains.Goals as goal

pub returns : goal.returns
returns c = rw (← c.self.view_is) (IsThere-test _ _ _ (rw c.deref.ensures.value at c.contains.ensures))
