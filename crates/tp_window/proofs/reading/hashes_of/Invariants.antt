use Rattle.std.proofs.Common.{take}
use Rattle.tp_window.specs.Requests.{SpellHashes}
use Rattle.tp_window.proofs.reading.hashes_of.Given as goal

-- the hashes so far are those of the texts so far
abbrev pub invariant-loop-text : goal.invariant-loop-text
invariant-loop-text l = SpellHashes (take l.text-index l.texts) l.hashes.items
