use Rattle.std.proofs.Common.{◌≡◌, ◌+◌, ◌≤◌, ◌++◌, drop, take}
use Rattle.tp_commands.specs.Status.{author_count, author_count_after}
use Rattle.tp_commands.proofs.status.authors.Given as goal

-- the actors so far are counted, and with those that are left they are all
abbrev pub invariant-loop-change : goal.invariant-loop-change
invariant-loop-change l = record {
  few : l.count ≤ l.change-index;
  counted : l.count + author_count_after (take l.change-index l.changes) (drop l.change-index l.changes) ≡ author_count l.changes;
}
