use Rattle.std.proofs.Common.{Some}
use Rattle.tp_online.proofs.mirroring.tell.Goals as goal

pub returns : goal.returns
returns g c = (Some c.args.error, (c.requires, c.exit_status.ensures.reported))
