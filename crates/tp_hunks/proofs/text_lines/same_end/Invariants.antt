use Rattle.std.proofs.Common.{◌≡◌, ◌+◌, ◌-◌, ◌≤◌, drop, length, reverse}
use Rattle.std.specs.List.{common_prefix_len}
use Rattle.tp_hunks.proofs.LineLists.{alike}
use Rattle.tp_hunks.proofs.text_lines.same_end.Given as goal

-- the lines so far are alike
abbrev pub invariant-loop-same : goal.invariant-loop-same
invariant-loop-same l = record {
  few : l.same ≤ length l.a;
  others : l.same ≤ length l.b;
  same :
      l.same + common_prefix_len alike (drop l.same (reverse l.a)) (drop l.same (reverse l.b)) ≡ common_prefix_len alike (reverse l.a) (reverse l.b);
}

abbrev pub decreases-loop-same : goal.decreases-loop-same
decreases-loop-same l = length l.a - l.same
