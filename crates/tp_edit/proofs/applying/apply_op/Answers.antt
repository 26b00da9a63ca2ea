use Rattle.std.proofs.Common.{sym, ◌∙◌}
use Rattle.tp_change.specs.Elements.{element}
use Rattle.tp_edit.proofs.Applied.{Extends-insert, Extends-delete}
use Rattle.tp_edit.proofs.applying.apply_op.Goals as goal
use Rattle.tp_edit.proofs.applying.apply_op.Goals.{in-Insert, in-Delete}

pub returns-clause-elements : goal.returns-clause-elements
returns-clause-elements g c =
    let old = g.S.Sequence.placed c.args.sequence.now in
    let new = g.S.Sequence.placed c.match-op.sequence in
    elim c.match-op.branch [
      | in-Insert w ↦
          let e = element w.in-Insert.id w.in-Insert.after w.in-Insert.ch in
          let done = sym w.done-is ∙ c.in-Ok.is in
          let put = rw done at w.insert-done.ensures.ok in
          let fits = rw w.in-Insert.is at c.requires.fits in
          rw (w.in-Insert.is, w.sequence-is) (Extends-insert old _ w.in-Insert.id w.in-Insert.after w.in-Insert.ch fits.0 put)
      | in-Delete w ↦
          rw (w.in-Delete.is, w.sequence-is) (Extends-delete old _ w.in-Delete.id w.in-Delete.target w.delete-done.ensures.placed)
    ]
