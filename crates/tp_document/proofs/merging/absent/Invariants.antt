use Rattle.tp_document.proofs.Common.{◌≡◌, take}
use Rattle.tp_document.specs.Merging as merging
use Rattle.tp_document.proofs.merging.absent.Given as goal

-- the absent ones of the changes so far are copied
abbrev pub invariant-loop-change : goal.invariant-loop-change
invariant-loop-change g l = l.found.items ≡ merging.absent l.document.applied (take l.change-index l.changes)
