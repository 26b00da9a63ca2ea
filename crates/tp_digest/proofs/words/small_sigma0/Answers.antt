use Rattle.std.proofs.Common.{◌/◌, ◌^◌, bit_xor}
use Rattle.tp_digest.proofs.Lanewise.{itself, all_the_same, both}
use Rattle.tp_digest.proofs.words.small_sigma0.Goals as goal

pub returns : goal.returns
returns c =
    both bit_xor _ _ _ _ (both bit_xor _ _ _ _ c.rotate_lanes.ensures c.rotate_lanes-2.ensures)
    (both (λ v s. v / 2 ^ s) _ _ _ _ (itself c.args.x c.fits-x.0) (all_the_same 3))
