use Rattle.std.proofs.Common.{◌∙◌, ap}
use Rattle.sha2.specs.Sha256.{add_state, compress, rounds}
use Rattle.tp_digest.specs.Lanes.{lane_of}
use Rattle.tp_digest.proofs.state.State.after_blocks.Goals as goal

pub returns : goal.returns
unfolding compress
returns c k h =
    let s = lane_of c.args.self k in
    c.plus.ensures k h
    ∙ ap (λ v. add_state s v) (c.after_rounds.ensures k h ∙ ap (λ w. rounds s w 64) (c.write_schedule.ensures k h))
