use Rattle.std.proofs.Common.{◌≡◌, ◌+◌, ◌++◌, List, ℕ, drop, length, map}
use Rattle.tp_hunks.specs.Lines.{LeadsText}
use Rattle.tp_hunks.specs.Words.{marked_from, marked_text}
use Rattle.tp_hunks.proofs.words.pieces_of.Given as goal

-- the replacements that are left lead to what is left of the new text, and the pieces so far and theirs are all
abbrev pub invariant-loop-replacement : goal.invariant-loop-replacement
invariant-loop-replacement l = record {
  made : map marked_text l.pieces.items ++ marked_from l.rest l.after (drop l.replacement-index l.replacements) ≡ marked_from l.old 0 l.replacements;
  left : (B : List ℕ) × LeadsText l.rest B l.after (drop l.replacement-index l.replacements) × (l.after + length B ≡ length l.new);
}
