use Rattle.std.proofs.Common.{List, ℕ, inr}
use Rattle.std.specs.String.{string_bytes}
use Rattle.tp_disk.specs.DiskView.{DiskView}
use Rattle.tp_mirroring.specs.Taking.{Mirrors}
use Rattle.tp_mirroring.proofs.TurnLaws.{changes_at, cuts_at, on_done, on_ok, turn_mirrors}
use Rattle.tp_mirroring.proofs.job.turn.Goals as goal

pub returns-in_err-leave-clause-may_cut : goal.returns-in_err-leave-clause-may_cut
returns-in_err-leave-clause-may_cut g c = inr (cuts_at _ _ _ c.as_str-file.ensures.value _ _ c.in_ok-journal.ensures.taken c.in_ok-journal.ensures.cuts)

pub returns-clause-cuts : goal.returns-clause-cuts
returns-clause-cuts g c = on_done c.do_turn-peer.result.done (cuts_at _ _ _ c.as_str-file.ensures.value _ _ c.in_ok-journal.ensures.taken c.in_ok-journal.ensures.cuts)

pub returns-clause-may_cut : goal.returns-clause-may_cut
returns-clause-may_cut g c = inr (cuts_at _ _ _ c.as_str-file.ensures.value _ _ c.in_ok-journal.ensures.taken c.in_ok-journal.ensures.cuts)

pub returns-clause-mirrors : goal.returns-clause-mirrors
returns-clause-mirrors g c =
    let saw : DiskView → Type 0 = g.D.Folders.saw c.args.rt.now in
    let note : List ℕ = string_bytes c.args.paths.now.note in
    on_ok c.do_turn-peer.result.done (λ taken.
    changes_at saw _ _ c.as_str-file.ensures.value (Mirrors saw note) _ _ _ c.in_ok-leave.ensures.stays c.in_ok-journal.ensures.taken
    (turn_mirrors saw note _ _ _ _ _ c.in_ok-peer.ensures.ok taken c.stop-journal.ensures.kept) c.in_ok-leave.ensures.left)
    c.do_turn-peer.ensures.taken
