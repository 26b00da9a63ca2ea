use Rattle.std.proofs.Common.{◌≡◌, ◌+◌, ◌-◌, take, sum, ap, ◌∙◌, arith}
use Rattle.tp_posindex.proofs.Laying.{sum_stretch, sum_stretch-le}
use Rattle.tp_posindex.proofs.numbers.skip.Goals as goal

pub total-sum-requires : goal.total-sum-requires
total-sum-requires c =
    let i = c.strides.index in
    omega (arith, sum_stretch-le i (i + 8 - i) c.args.counts.now, c.requires.fits)

pub strides-preserved : goal.strides-preserved
strides-preserved c =
    let i = c.strides.index in
    let counts = c.args.counts.now in
    let whole : i + (i + 8 - i) ≡ i + 8 = omega arith in
    let passed = sum_stretch i (i + 8 - i) counts ∙ ap (λ n. sum (take n counts)) whole in
    let invariant = c.strides.invariant.passed in
    record { within = omega arith; passed = omega (arith, c.total-sum.ensures) }
