use Rattle.std.proofs.Common.{subst, sym}
use Rattle.tp_peer.specs.Appending.{journal_state}
use Rattle.tp_editor.specs.Opening.{RefusesOpeningOn}
use Rattle.tp_editor.proofs.TailLaws.{none_cut, not_recovered, not_whole}
use Rattle.tp_editor.proofs.opening.open_whole.Goals as goal

pub returns-in-Ok-open_recovered-clause-whole : goal.returns-in-Ok-open_recovered-clause-whole
returns-in-Ok-open_recovered-clause-whole g c =
    none_cut _ _ _ _ _ (rw c.in-Ok.is at c.requires.recovers).0 (rw c.in-Ok.is at c.requires.tail) c.in-Ok-check_tail.ensures.ok

pub returns-in-Err-check_tail-clause-err : goal.returns-in-Err-check_tail-clause-err
returns-in-Err-check_tail-clause-err g c =
    not_whole _ _ _ _ _ _ _ (rw c.in-Ok.is at c.requires.recovers).0 (rw c.in-Ok.is at c.requires.tail) c.in-Err-check_tail.ensures.err

pub returns-in-Err-clause-err : goal.returns-in-Err-clause-err
returns-in-Err-clause-err g c =
    subst (RefusesOpeningOn (journal_state (g.J.Journal.content c.args.journal) (g.J.Journal.device c.args.journal)) c.args.actor) (sym c.from.ensures)
    (not_recovered _ _ _ (rw c.in-Err.is at c.requires.refused))
