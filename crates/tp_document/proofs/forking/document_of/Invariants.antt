use Rattle.tp_document.proofs.Common.{take, HasJust}
use Rattle.tp_document.proofs.forking.document_of.Given as goal

-- the changes so far have entered
abbrev pub invariant-loop-change : goal.invariant-loop-change
invariant-loop-change g l = HasJust l.fn.id (take l.change-index l.changes) l.document
