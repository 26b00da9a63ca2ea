use Rattle.std.proofs.Common.{◌≡◌, ◌++◌, take}
use Rattle.std.specs.List.{flat_map}
use Rattle.tp_layout.specs.Spelling.{framed_change}
use Rattle.tp_store.proofs.saved.with_changes.Given as goal

abbrev pub invariant-loop-change : goal.invariant-loop-change
invariant-loop-change l = l.whole.items ≡ l.fn.out.items ++ flat_map framed_change (take l.change-index l.changes)
