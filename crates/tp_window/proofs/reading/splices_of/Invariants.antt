use Rattle.std.proofs.Common.{take}
use Rattle.tp_window.specs.Requests.{AreTypedSplices}
use Rattle.tp_window.proofs.reading.splices_of.Given as goal

-- the splices so far are the typed ones so far
abbrev pub invariant-loop-splice : goal.invariant-loop-splice
invariant-loop-splice l = AreTypedSplices (take l.splice-index l.typed) l.splices.items
