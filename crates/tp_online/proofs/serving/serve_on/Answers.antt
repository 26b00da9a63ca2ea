use Rattle.tp_online.proofs.ServedLines.{served, stopped_first, stopped_then}
use Rattle.tp_online.proofs.serving.serve_on.Goals as goal

pub returns-in-Ok-clause-ok : goal.returns-in-Ok-clause-ok
returns-in-Ok-clause-ok g c = served c.hold_and_report.result _ _ _ c.args.listening.port c.args.how.now.sessions c.in-Ok.ensures.ok c.hold_and_report.ensures.ok

pub returns-in-Ok-clause-err : goal.returns-in-Ok-clause-err
returns-in-Ok-clause-err g c = stopped_then c.hold_and_report.result _ _ _ c.args.listening.port c.args.how.now.sessions c.in-Ok.ensures.ok c.hold_and_report.ensures.err

pub returns-in-Err-clause-err : goal.returns-in-Err-clause-err
returns-in-Err-clause-err g c = stopped_first _ _ c.args.listening.port c.args.how.now.sessions c.in-Err.ensures.err
