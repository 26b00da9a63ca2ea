use Rattle.std.proofs.Common.{◌≡◌, ◌+◌, take}
use Rattle.tp_c.specs.Flat.{texts_len}
use Rattle.tp_c.proofs.splices.adds_up.Given as goal

-- what is left is without the texts so far
abbrev pub invariant-loop-numbers : goal.invariant-loop-numbers
invariant-loop-numbers l = l.left + texts_len (take l.numbers-index l.flat) ≡ l.len
