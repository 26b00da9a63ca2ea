use Rattle.tp_peer.proofs.Common.{◌≡◌, take, journal}
use Rattle.tp_peer.proofs.opening.journal_of.Given as goal

-- the bytes so far are the journal of the changes so far
abbrev pub invariant-loop-change : goal.invariant-loop-change
invariant-loop-change l = l.bytes.items ≡ journal l.document.id (take l.change-index l.change-items)
