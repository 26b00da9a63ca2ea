use Rattle.std.proofs.Common.{◌-◌, ◌*◌, ◌/◌, ◌%◌, ◌^◌, bit_or}
use Rattle.tp_digest.proofs.Lanewise.{itself, all_the_same, both, said, rotation}
use Rattle.tp_digest.proofs.words.rotate_lanes.Goals as goal

pub returns : goal.returns
returns c =
    let x = itself c.args.x c.fits-x.0 in
    let right = both (λ v s. v / 2 ^ s) _ _ _ _ x (all_the_same c.args.by) in
    let left = both (λ v s. v * 2 ^ s % 2 ^ 32) _ _ _ _ x (all_the_same (32 - c.args.by)) in
    said _ _ _ (both bit_or _ _ _ _ right left) (λ k _. rotation _ c.args.by c.requires.positive c.requires.below)
