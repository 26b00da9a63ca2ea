use Rattle.std.proofs.Common.{◌≡◌, ◌+◌, ◌≤◌, ◌++◌, length}
use Rattle.tp_change.specs.Operations.{ops_of}
use Rattle.tp_change.specs.Elements.{deletes_in}
use Rattle.tp_edit.specs.Applying.{CanApply, Extends}
use Rattle.tp_edit.proofs.applying.apply_change.Given as goal

-- the operations so far are in, and those that are left may come
abbrev pub invariant-loop-op : goal.invariant-loop-op
invariant-loop-op g l =
    let placed = g.S.Sequence.placed in
    let removals = g.S.Sequence.removals in
    let room = g.S.Sequence.room in
    record {
      split : l.yielded ++ l.op-iterator ≡ ops_of l.change;
      fits : CanApply (placed l.sequence) l.op-iterator;
      enough : length l.op-iterator ≤ room l.sequence;
      elements : Extends (placed l.fn.sequence) (placed l.sequence) l.yielded;
      deletes : removals l.sequence ≡ removals l.fn.sequence ++ deletes_in l.yielded;
      used : room l.fn.sequence ≤ room l.sequence + length l.yielded;
    }
