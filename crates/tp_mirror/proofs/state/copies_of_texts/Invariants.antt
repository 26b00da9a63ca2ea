use Rattle.std.proofs.Common.{◌≡◌, take}
use Rattle.tp_mirror.proofs.state.copies_of_texts.Given as goal

-- the copies so far are those of the first ones
abbrev pub invariant-loop-known : goal.invariant-loop-known
invariant-loop-known l = l.copies ≡ take l.known-index l.texts
