use Rattle.std.specs.Str.{chars}
use Rattle.tp_peer.specs.Appending.{journal_state}
use Rattle.tp_commands.proofs.Journals.{edits_of}
use Rattle.tp_commands.proofs.editing.edit.Goals as goal

pub returns-in-Ok-made-clause-edits : goal.returns-in-Ok-made-clause-edits
returns-in-Ok-made-clause-edits g c =
    edits_of (journal_state (g.J.Journal.content c.args.opened.0) (g.J.Journal.device c.args.opened.0)) c.args.actor
    c.in-Ok.peer c.edit-made.new.self c.args.splice c.args.time (chars c.args.message.now) c.in-Ok-made.made _
    c.in-Ok.ensures.ok c.in-Ok-made.ensures.step c.stop-journal.ensures.content
