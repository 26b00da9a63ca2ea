use Rattle.std.proofs.Common.{◌≡◌, None}
use Rattle.std.specs.String.{string_bytes}
use Rattle.tp_online.specs.Mirroring.{TellsSome}
use Rattle.tp_online.proofs.mirroring.go_on.Given as goal

-- what the turns so far said was written
abbrev pub invariant-loop-turn : goal.invariant-loop-turn
invariant-loop-turn g l = (l.cut ≡ None) × TellsSome (g.R.Folders.saw l.rt) (string_bytes l.paths.file) (g.E.Write.contents l.fn.err) (g.E.Write.contents l.err)
