use Rattle.tp_sync.proofs.UnionLaws.{not_due_held, twins_of}
use Rattle.tp_sync.proofs.laws.what_lacks_is_due.Goals as goal

pub returns : goal.returns
returns a C D theirs wants c sound there apart i e = not_due_held C D theirs wants c sound there (twins_of D C apart) i e
