use Rattle.std.proofs.Common.{◌≤◌, length, drop}
use Rattle.tp_rga.specs.Order.{Precedes}
use Rattle.tp_rga.proofs.by_chains.precedes.Given as goal

-- the chains agree so far
abbrev pub invariant-loop-i : goal.invariant-loop-i
invariant-loop-i l = record {
  within : l.i ≤ length l.d;
  there : Precedes l.c l.d → Precedes (drop l.i l.c) (drop l.i l.d);
  back : Precedes (drop l.i l.c) (drop l.i l.d) → Precedes l.c l.d;
}
