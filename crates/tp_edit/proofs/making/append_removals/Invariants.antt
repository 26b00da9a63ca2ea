use Rattle.tp_rga.specs.Shown.{visible_of}
use Rattle.tp_edit.specs.EditRecords.{ids_of}
use Rattle.tp_edit.specs.Landings.{ids_through}
use Rattle.tp_edit.proofs.RecordSteps.{IsGrouped}
use Rattle.tp_edit.proofs.making.append_removals.Given as goal

-- With the open stretch and the elements from k on, the records are those that were there and the removals of all.
abbrev pub invariant-loop-k : goal.invariant-loop-k
invariant-loop-k g l =
    let V = ids_of (visible_of (g.S.Sequence.removals l.sequence) (g.S.Sequence.placed l.sequence)) in
    IsGrouped (ids_through l.actor V l.landings.done.items) l.splice.at l.splice.del l.k l.first l.count l.fn.records.items l.records.items
