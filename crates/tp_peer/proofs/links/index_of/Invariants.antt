use Rattle.tp_peer.proofs.Common.{◌≡◌, take, false, has_link}
use Rattle.tp_peer.proofs.links.index_of.Given as goal

abbrev pub invariant-loop-i : goal.invariant-loop-i
invariant-loop-i l = has_link (take l.i l.links) l.number ≡ false
