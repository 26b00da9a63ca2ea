use Rattle.std.specs.Str.{chars}
use Rattle.tp_peer.specs.Appending.{journal_state}
use Rattle.tp_commands.proofs.Updates.{updates_of}
use Rattle.tp_commands.proofs.updating.update_now.Goals as goal

pub returns-in-Ok-made-clause-updates : goal.returns-in-Ok-made-clause-updates
returns-in-Ok-made-clause-updates g c =
    updates_of (journal_state (g.J.Journal.content c.args.opened.0) (g.J.Journal.device c.args.opened.0)) c.args.actor
    c.in-Ok.peer c.rewrite-made.new.peer (chars c.args.text.now) c.args.time (chars c.args.message.now) c.in-Ok-made.hashes.items _
    c.in-Ok.ensures.ok c.in-Ok-made.ensures.ok c.stop-journal.ensures.kept
