use Rattle.std.specs.Str.{chars}
use Rattle.tp_event.proofs.RefusedEdits.{no_edit}
use Rattle.tp_event.proofs.member.edit_change_of.Goals as goal

pub returns-in_default : goal.returns-in_default
returns-in_default c = record {
  ok = no_edit c.args.peer.now c.document.result.now.applied c.actor.result c.args.splices.now c.args.time (chars c.args.message.now) c.in-Err.error c.document.ensures.applied c.actor.ensures
      c.document.ensures.keeps.history c.in_default.not-OutOfMemory c.in-Err.ensures;
  err = tt;
}
