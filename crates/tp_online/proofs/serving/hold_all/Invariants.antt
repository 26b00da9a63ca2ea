use Rattle.std.proofs.Common.{ℕ, List, Option}
use Rattle.tp_disk.specs.DiskView.{OfLocked}
use Rattle.tp_disk.specs.Opening.{OpensUnder}
use Rattle.tp_online.specs.Sessions.{ReportsEach}
use Rattle.tp_online.proofs.serving.hold_all.Given as goal

-- the peer was opened on the journal, and what was cut off each time was said
abbrev pub invariant-loop : goal.invariant-loop
invariant-loop g l =
    (OfLocked (g.R.Folders.saw l.rt) l.source.file.now (λ bytes. OpensUnder l.source.key bytes l.peer))
    × ((cuts : List (Option ℕ)) × ReportsEach (g.R.Folders.saw l.rt) l.source.file.now cuts (g.E.Write.contents l.fn.err) (g.E.Write.contents l.err))
