use Rattle.tp_sync.proofs.ExchangeLaws.{one_set}
use Rattle.tp_sync.proofs.laws.an_exchange_leaves_the_union.Goals as goal

pub returns : goal.returns
returns c = one_set
