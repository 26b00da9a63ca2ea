use Rattle.std.proofs.Common.{◌≡◌, ◌+◌, ◌++◌, length}
use Rattle.tp_change.specs.Operations.{ops_of, id_of}
use Rattle.tp_change.specs.Elements.{deletes_in, refers}
use Rattle.tp_change.proofs.Numbered.{Numbered}
use Rattle.tp_edit.specs.Applying.{Extends}
use Rattle.tp_opid.specs.Tree.{IsAboveAll}
use Rattle.tp_edit.proofs.applying.apply_checked.Given as goal

-- the references so far were there, and the operations so far are in
abbrev pub invariant-loop-op : goal.invariant-loop-op
invariant-loop-op g l =
    let placed = g.S.Sequence.placed in
    let removals = g.S.Sequence.removals in
    record {
      split : l.yielded ++ l.op-iterator ≡ ops_of l.change;
      numbered : Numbered l.change.actor (l.change.start + length l.yielded) l.op-iterator;
      under : IsAboveAll (placed l.sequence) (id_of l.change.actor (l.change.start + length l.yielded));
      refers_left : refers (placed l.fn.sequence) (ops_of l.change) ≡ refers (placed l.sequence) l.op-iterator;
      elements : Extends (placed l.fn.sequence) (placed l.sequence) l.yielded;
      deletes : removals l.sequence ≡ removals l.fn.sequence ++ deletes_in l.yielded;
    }
