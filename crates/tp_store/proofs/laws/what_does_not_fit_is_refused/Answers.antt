use Rattle.tp_store.proofs.WholeFile.{not_fitting}
use Rattle.tp_store.proofs.laws.what_does_not_fit_is_refused.Goals as goal

pub returns : goal.returns
returns c = not_fitting
