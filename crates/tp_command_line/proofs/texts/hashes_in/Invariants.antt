use Rattle.std.proofs.Common.{take}
use Rattle.tp_command_line.specs.Values.{AreHexOf}
use Rattle.tp_command_line.proofs.HashTexts.{texts_of}
use Rattle.tp_command_line.proofs.texts.hashes_in.Given as goal

-- the hashes so far are those of the texts so far
abbrev pub invariant-loop-text : goal.invariant-loop-text
invariant-loop-text l = AreHexOf (texts_of (take l.text-index l.texts)) l.hashes.items
