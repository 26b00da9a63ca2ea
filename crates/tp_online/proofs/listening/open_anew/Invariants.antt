use Rattle.std.proofs.Common.{ℕ, List, Option}
use Rattle.tp_online.specs.Sessions.{ReportsEach}
use Rattle.tp_online.proofs.listening.open_anew.Given as goal

-- what was cut off at each attempt was said
abbrev pub invariant-loop : goal.invariant-loop
invariant-loop g l = (cuts : List (Option ℕ)) × ReportsEach (g.R.Folders.saw l.rt) l.source.file.now cuts (g.E.Write.contents l.fn.err) (g.E.Write.contents l.err)
