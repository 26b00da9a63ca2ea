use Rattle.std.proofs.Common.{◌≡◌, map, take}
use Rattle.tp_mirroring.proofs.account.names_of.Given as goal

-- the names so far are those of the first files
abbrev pub invariant-loop-away : goal.invariant-loop-away
invariant-loop-away l = l.names.items ≡ map (λ m. m.name) (take l.away-index l.moved)
