use Rattle.std.proofs.Common.{◌+◌, ◌*◌, ◌≤◌, ◌^◌, ◌↔◌, drop}
use Rattle.tp_edit.specs.Splices.{AllInRange}
use Rattle.tp_edit.proofs.splice.in_range.Given as goal

-- What is left to judge is the splices ahead, on a text of `length` characters.
abbrev pub invariant-loop-splice : goal.invariant-loop-splice
invariant-loop-splice l = record {
  near : l.length ≤ 2 ^ 64 * (l.splice-index + 1);
  ahead : AllInRange l.len l.splices ↔ AllInRange l.length (drop l.splice-index l.splices);
}
