use Rattle.tp_history.proofs.NotesLaws.{Passed}
use Rattle.tp_history.proofs.index.Index.by_word.Given as goal

abbrev pub invariant-loop-number : goal.invariant-loop-number
invariant-loop-number l = Passed l.self-inside.slots.items l.changes l.hash l.word l.first l.number
