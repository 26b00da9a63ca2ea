use Rattle.std.proofs.Common.{◌∙◌, sym, arith, add-one}
use Rattle.sha2.specs.Sha256.{rounds}
use Rattle.tp_digest.proofs.Schedules.{lane_word, round_alike}
use Rattle.tp_digest.proofs.state.State.round_at.Goals as goal

pub returns : goal.returns
unfolding rounds
returns c k h below now =
    rw add-one (c.round.ensures k below
    ∙ round_alike _ _ _ _ _ now (sym (lane_word c.args.words.now k c.args.t (omega arith))))
