use Rattle.std.proofs.Common.{bit_xor}
use Rattle.tp_digest.proofs.Lanewise.{both}
use Rattle.tp_digest.proofs.words.big_sigma1.Goals as goal

pub returns : goal.returns
returns c =
    both bit_xor _ _ _ _ (both bit_xor _ _ _ _ c.rotate_lanes.ensures c.rotate_lanes-2.ensures) c.rotate_lanes-3.ensures
