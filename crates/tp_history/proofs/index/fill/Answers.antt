use Rattle.tp_history.proofs.NotesLaws.{present_still, present_there}
use Rattle.tp_history.proofs.index.fill.Goals as goal

pub returns-in-Some-clause-there : goal.returns-in-Some-clause-there
returns-in-Some-clause-there c = λ yes. present_there c.args.slots.now c.args.word c.args.place c.args.number c.in-Some.slot c.requires c.in-Some.ensures

pub returns-in-Some-clause-still : goal.returns-in-Some-clause-still
returns-in-Some-clause-still c = λ bound free. present_still c.args.slots.now c.args.word bound c.args.number c.in-Some.slot c.in-Some.ensures.taken free
