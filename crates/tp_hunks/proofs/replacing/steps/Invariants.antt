use Rattle.std.proofs.Common.{◌≡◌, ◌+◌, ◌++◌, List, ℕ, drop, length}
use Rattle.tp_hunks.specs.Lines.{LeadsText, steps_of}
use Rattle.tp_hunks.proofs.replacing.steps.Given as goal

-- the replacements that are left lead to what is left of the new text, and the steps so far and theirs are all
abbrev pub invariant-loop-replacement : goal.invariant-loop-replacement
invariant-loop-replacement l = record {
  made : l.steps.items ++ steps_of l.rest l.after (drop l.replacement-index l.replacements) ≡ steps_of l.old 0 l.replacements;
  left : (B : List ℕ) × LeadsText l.rest B l.after (drop l.replacement-index l.replacements) × (l.after + length B ≡ length l.new);
}
