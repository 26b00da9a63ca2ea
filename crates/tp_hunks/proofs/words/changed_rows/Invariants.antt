use Rattle.std.proofs.Common.{◌≡◌, ◌++◌, drop}
use Rattle.tp_hunks.specs.Words.{changed_from}
use Rattle.tp_hunks.proofs.words.changed_rows.Given as goal

-- the rows so far, and those from here on, are all that changed
abbrev pub invariant-loop-at : goal.invariant-loop-at
invariant-loop-at l = l.hunks.items ++ changed_from l.at (drop l.at l.rows) ≡ changed_from 0 l.rows
