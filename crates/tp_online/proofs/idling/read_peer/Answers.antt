use Rattle.tp_journal.specs.Journal.{failing}
use Rattle.tp_online.proofs.FollowLaws.{idle_at_first}
use Rattle.tp_online.proofs.idling.read_peer.Goals as goal

-- the peer of what was read
pub returns-in-Ok-reopen : goal.returns-in-Ok-reopen
returns-in-Ok-reopen g c =
    idle_at_first (g.R.Folders.saw c.args.rt.now) c.args.file.now c.args.key c.in-Ok-recover.read c.in-Some.journal.content.bytes (failing c.in-Some.journal.failures) c.in-Ok.actor
    c.in-Ok-reopen.peer c.in-Ok-recover.ensures c.in-Some.ensures.content c.in-Ok.ensures c.in-Ok-reopen.ensures.ok
