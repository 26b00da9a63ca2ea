use Rattle.tp_report.proofs.TellLaws.{nothing_reported}
use Rattle.tp_report.proofs.telling.ended_with.Goals as goal

pub returns-in-Closed-None-clause-reported : goal.returns-in-Closed-None-clause-reported
returns-in-Closed-None-clause-reported g c = nothing_reported c.args.error c.args.note.now c.args.file.now c.args.cut (g.E.Write.contents c.args.err.now)
