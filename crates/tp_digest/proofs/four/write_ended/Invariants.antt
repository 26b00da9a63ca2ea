use Rattle.std.proofs.Common.{◌≡◌, ◌≢◌, ◌<◌, ℕ, [], get_or, length}
use Rattle.sha2.specs.Sha256.{digest_bytes}
use Rattle.tp_digest.specs.Lanes.{lane_of}
use Rattle.tp_digest.proofs.four.write_ended.Given as goal

abbrev pub invariant-loop-lane : goal.invariant-loop-lane
invariant-loop-lane l = record {
  long : length l.digests ≡ 4;
  ended : (k : ℕ) → k < l.lane → get_or l.counts k 0 ≡ l.done
      → get_or l.digests k [] ≡ digest_bytes (lane_of l.state k) 8;
  others : (k : ℕ) → get_or l.counts k 0 ≢ l.done → get_or l.digests k [] ≡ get_or l.fn.digests k [];
}
