use Rattle.std.proofs.Common.{◌≡◌, ◌<◌, ◌*◌, ℕ}
use Rattle.sha2.specs.Sha256.{rounds}
use Rattle.tp_digest.specs.Lanes.{lane_of, lane_words}
use Rattle.tp_digest.proofs.state.State.after_rounds.Given as goal

abbrev pub invariant-loop-eighth : goal.invariant-loop-eighth
invariant-loop-eighth l =
    (k : ℕ) → k < 4 → lane_of l.working k ≡ rounds (lane_of l.fn.self k) (lane_words l.words k) (8 * l.eighth)
