use Rattle.std.proofs.Common.{◌≡◌, ◌*◌, take, length}
use Rattle.sha2.specs.Sha256.{digest_bytes}
use Rattle.tp_digest.specs.Lanes.{lane_of}
use Rattle.tp_digest.proofs.state.State.digest.Given as goal

abbrev pub invariant-loop-i : goal.invariant-loop-i
invariant-loop-i l = record {
  long : length l.bytes ≡ 32;
  known : take (4 * l.i) l.bytes ≡ digest_bytes (lane_of l.self l.lane) l.i;
}
