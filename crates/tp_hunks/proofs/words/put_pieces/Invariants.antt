use Rattle.std.proofs.Common.{◌≡◌, ◌++◌, length, map}
use Rattle.tp_hunks.specs.Words.{marked_lines, marked_text}
use Rattle.tp_hunks.proofs.words.put_pieces.Given as goal

-- the pieces so far and those of what is left are all
abbrev pub invariant-loop-rest : goal.invariant-loop-rest
invariant-loop-rest l = map marked_text l.pieces.items ++ marked_lines l.mark l.rest ≡ map marked_text l.fn.pieces.items ++ marked_lines l.mark l.text

abbrev pub decreases-loop-rest : goal.decreases-loop-rest
decreases-loop-rest l = length l.rest
