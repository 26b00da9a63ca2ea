use Rattle.std.proofs.Common.{◌≡◌, map, take}
use Rattle.tp_command_line.proofs.values.copies_of.Given as goal

-- the copies so far are those of the texts so far
abbrev pub invariant-loop-text : goal.invariant-loop-text
invariant-loop-text l = map (λ t. t.now) l.copies.items ≡ map (λ t. t.now) (take l.text-index l.texts)
