use Rattle.tp_document.proofs.Common.{take, HasJust, changes_at_places}
use Rattle.tp_document.proofs.forking.document_at.Given as goal

-- the changes at the places so far have entered
abbrev pub invariant-loop-place : goal.invariant-loop-place
invariant-loop-place g l = HasJust l.fn.id (changes_at_places l.changes (take l.place-index l.places)) l.document
