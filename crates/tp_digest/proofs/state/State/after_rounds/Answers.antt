use Rattle.std.proofs.Common.{◌≡◌, ◌∙◌, ◌+◌, ◌*◌, ap, refl, arith}
use Rattle.sha2.specs.Sha256.{rounds}
use Rattle.tp_digest.specs.Lanes.{lane_of, lane_words}
use Rattle.tp_digest.proofs.state.State.after_rounds.Goals as goal

pub loop-eighth-init : goal.loop-eighth-init
unfolding rounds
loop-eighth-init c k h = refl

pub loop-eighth-preserved : goal.loop-eighth-preserved
loop-eighth-preserved c k h =
    let e : 8 * c.loop-eighth.eighth + 8 ≡ 8 * (c.loop-eighth.eighth + 1) = omega arith in
    c.eight_rounds-working.ensures k (lane_of c.args.self k) h (c.loop-eighth.invariant k h)
    ∙ ap (λ t. rounds (lane_of c.args.self k) (lane_words c.args.words.now k) t) e
