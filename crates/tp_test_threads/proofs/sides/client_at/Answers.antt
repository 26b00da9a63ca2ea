use Rattle.std.proofs.Common.{◌∙◌}
use Rattle.tp_test_threads.proofs.sides.client_at.Goals as goal

pub read-requires : goal.read-requires
read-requires g c = c.connect.ensures.served ∙ c.requires
