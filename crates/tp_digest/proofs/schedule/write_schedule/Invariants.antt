use Rattle.std.proofs.Common.{◌≡◌, ◌<◌, ◌*◌, ℕ, [], get_or, length}
use Rattle.sha2.specs.Sha256.{schedule, word_at}
use Rattle.tp_digest.specs.Lanes.{HasInLanes}
use Rattle.tp_digest.proofs.schedule.write_schedule.Given as goal

abbrev pub invariant-loop-t : goal.invariant-loop-t
invariant-loop-t l = record {
  long : length l.words ≡ 64;
  known : (s : ℕ) → s < l.t → HasInLanes (get_or l.words s []) (λ k. word_at (get_or l.blocks k []) (4 * s));
}

abbrev pub invariant-loop-t-2 : goal.invariant-loop-t-2
invariant-loop-t-2 l = record {
  long : length l.words ≡ 64;
  known : (s : ℕ) → s < l.t
      → HasInLanes (get_or l.words s []) (λ k. get_or (schedule (get_or l.blocks k []) 48) s 0);
}
