use Rattle.std.proofs.Common.{◌≡◌, ◌++◌, map, take}
use Rattle.tp_mirroring.proofs.account.texts_in.Given as goal

-- the texts so far are those of the first ones
abbrev pub invariant-loop-known : goal.invariant-loop-known
invariant-loop-known l = l.texts.items ≡ map (λ k. k.text) (take l.known-index l.state.texts)

-- and those of the first files
abbrev pub invariant-loop-away : goal.invariant-loop-away
invariant-loop-away l = l.texts.items ≡ map (λ k. k.text) l.state.texts ++ map (λ m. m.known.text) (take l.away-index l.state.moved)
