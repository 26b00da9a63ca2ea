use Rattle.std.proofs.Common.{◌≡◌, ◌≤◌, ℕ, List, None, Option}
use Rattle.std.specs.Prelude.{IfSome}
use Rattle.tp_report.specs.Telling.{GrowsBy}
use Rattle.tp_online.specs.Mirroring.{TellsShared}
use Rattle.tp_online.specs.Sessions.{IsFollowed, IsIdle}
use Rattle.tp_online.proofs.mirroring.share_on.Given as goal

-- a number of sessions was held so far, and what is printed and said of them and of the turns was written
abbrev pub invariant-loop-turn : goal.invariant-loop-turn
invariant-loop-turn g l =
    (l.held ≤ l.sessions)
    × (l.cut ≡ None)
    × TellsShared (g.R.Folders.saw l.rt) l.file (g.E.Write.contents l.fn.err) (g.E.Write.contents l.err)
    × IfSome l.between.peer (IsIdle (g.R.Folders.saw l.rt) l.file l.key)
    × GrowsBy (IsFollowed (g.R.Folders.saw l.rt) l.file l.key l.held) (g.W.Write.contents l.fn.out) (g.W.Write.contents l.out)
