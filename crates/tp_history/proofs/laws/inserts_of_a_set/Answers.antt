use Rattle.tp_history.proofs.Common.{inserts-more}
use Rattle.tp_history.proofs.laws.inserts_of_a_set.Goals as goal

pub returns : goal.returns
returns c = λ C D f. inserts-more C D f
