use Rattle.std.proofs.Common.{◌≡◌, min, take}
use Rattle.tp_edit.specs.Splices.{total_count, AllScalars}
use Rattle.tp_edit.proofs.splice.operation_count.Given as goal

-- the count so far is that of the splices so far, up to the greatest number of `usize`
abbrev pub invariant-loop-splice : goal.invariant-loop-splice
invariant-loop-splice l = record {
  counted : l.count ≡ min (total_count (take l.splice-index l.splices)) 18446744073709551615;
  scalars : AllScalars (take l.splice-index l.splices);
}
