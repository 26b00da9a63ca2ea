use Rattle.std.proofs.Common.{◌≡◌, ◌+◌, take}
use Rattle.tp_posindex.specs.Laid.{count_visible}
use Rattle.tp_posindex.proofs.numbers.nth_down.Given as goal

-- of the flags that are down before the one that is sought, those that were passed are counted off
abbrev pub invariant-loop-index : goal.invariant-loop-index
invariant-loop-index l = l.left + count_visible l.flags (take l.index l.numbers) ≡ l.i
