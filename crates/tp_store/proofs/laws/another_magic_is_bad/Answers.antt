use Rattle.tp_store.proofs.PieceSteps.{magic_differs}
use Rattle.tp_store.proofs.laws.another_magic_is_bad.Goals as goal

pub returns : goal.returns
returns c = magic_differs
