use Rattle.std.proofs.Common.{refl}
use Rattle.tp_journal.specs.Journal.{no_device}
use Rattle.tp_peer.specs.Appending.{journal_state}
use Rattle.tp_commands.proofs.Journals.{takes_of}
use Rattle.tp_commands.proofs.editing.merge.Goals as goal

pub returns-in-Ok-merged-clause-takes : goal.returns-in-Ok-merged-clause-takes
returns-in-Ok-merged-clause-takes g c =
    let merged = c.in-Ok-merged.ensures.ok in
    takes_of (journal_state c.args.other no_device) c.args.other c.args.actor c.args.peer c.in-Ok.other c.merge_from-merged.new.peer
    merged.0 c.in-Ok-merged.count _ refl c.in-Ok.ensures.ok merged.1 merged.2 c.stop-journal.ensures.content
