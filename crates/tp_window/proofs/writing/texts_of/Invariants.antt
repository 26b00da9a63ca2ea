use Rattle.std.proofs.Common.{take}
use Rattle.tp_window.specs.Answers.{WriteHashes}
use Rattle.tp_window.proofs.writing.texts_of.Given as goal

-- the texts so far are those of the hashes so far
abbrev pub invariant-loop-hash : goal.invariant-loop-hash
invariant-loop-hash l = WriteHashes (take l.hash-index l.hashes) l.texts.items
