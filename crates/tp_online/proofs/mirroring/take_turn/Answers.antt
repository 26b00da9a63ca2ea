use Rattle.std.proofs.Common.{inr, refl, None}
use Rattle.std.specs.String.{string_bytes}
use Rattle.tp_online.proofs.MirrorLaws.{turn_at}
use Rattle.tp_online.proofs.mirroring.take_turn.Goals as goal

pub returns-in-Ok-clause-told : goal.returns-in-Ok-clause-told
returns-in-Ok-clause-told g c =
    turn_at (g.R.Folders.saw c.args.rt.now) _ (string_bytes c.args.paths.now.file) c.as_str.ensures.value _ _ _ c.mirror.new.cut None (inr c.in-Ok.ensures.cuts) c.report.ensures refl

pub returns-in-Err-clause-told : goal.returns-in-Err-clause-told
returns-in-Err-clause-told g c =
    turn_at (g.R.Folders.saw c.args.rt.now) _ (string_bytes c.args.paths.now.file) c.as_str-in-Err.ensures.value _ _ _ c.mirror.new.cut c.tell.ensures.0 c.in-Err.ensures.may_cut c.report-in-Err.ensures c.tell.ensures.1
