use Rattle.tp_online.proofs.FollowLaws.{stops_before}
use Rattle.tp_online.proofs.mirroring.share_mirror.Goals as goal

-- nothing was done
pub returns-in-Err-clause-err : goal.returns-in-Err-clause-err
returns-in-Err-clause-err g c = stops_before (g.R.Folders.saw c.args.rt.now) c.args.file.now c.args.key (g.W.Write.contents c.args.out.now)
