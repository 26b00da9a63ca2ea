use Rattle.std.specs.String.{string_bytes}
use Rattle.tp_online.proofs.ServedLines.{leaves}
use Rattle.tp_online.proofs.serving.tell_applied.Goals as goal

pub returns-clause-err : goal.returns-clause-err
returns-clause-err g c = leaves c.put.result c.applied_text.result string_bytes c.args.applied _ _ c.applied_text.ensures c.put.ensures.err
