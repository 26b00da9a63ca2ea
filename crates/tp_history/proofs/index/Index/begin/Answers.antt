use Rattle.tp_history.proofs.Common.{ap, Notes}
use Rattle.tp_history.proofs.NotesLaws.{AreNoted-first}
use Rattle.tp_history.proofs.index.Index.begin.Goals as goal

pub returns-then-take_free-clause-notes : goal.returns-then-take_free-clause-notes
returns-then-take_free-clause-notes c = λ C end lacks w. AreNoted-first C c.args.self.now _ c.requires.none (ap (λ (n : Notes). n.hashes) c.self.view_is) w
