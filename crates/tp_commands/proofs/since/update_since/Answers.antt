use Rattle.std.specs.Str.{chars}
use Rattle.tp_peer.specs.Appending.{journal_state}
use Rattle.tp_commands.proofs.SinceLaws.{updates_since_of}
use Rattle.tp_commands.proofs.since.update_since.Goals as goal

pub returns-in-Ok-made-clause-updates : goal.returns-in-Ok-made-clause-updates
returns-in-Ok-made-clause-updates g c =
    updates_since_of (journal_state (g.J.Journal.content c.args.opened.0) (g.J.Journal.device c.args.opened.0)) c.args.by.now.actor
    c.in-Ok.peer c.rewrite_at-made.new.peer c.args.since.now (chars c.args.text.now) c.args.by.now.time (chars c.args.by.now.message.now) c.in-Ok-made.hashes.items _
    c.in-Ok.ensures.ok c.in-Ok-made.ensures.ok c.stop-journal.ensures.kept
