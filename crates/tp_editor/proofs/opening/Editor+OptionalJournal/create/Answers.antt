use Rattle.std.proofs.Common.{ap, ◌∙◌}
use Rattle.tp_journal.specs.Journal.{failing}
use Rattle.tp_peer.specs.Appending.{journal_state}
use Rattle.tp_editor.specs.EditorState.{new_editor}
use Rattle.tp_editor.proofs.opening.Editor+OptionalJournal.create.Goals as goal

pub returns-in-Ok-create_recovered-clause-ok : goal.returns-in-Ok-create_recovered-clause-ok
returns-in-Ok-create_recovered-clause-ok c = record {
  journal = journal_state c.in-Ok.journal.file.content (failing c.in-Ok.journal.file.failures);
  unused = c.in-Ok-create_recovered.ensures.unused;
  fresh = c.of.ensures ∙ ap new_editor c.in-Ok-create_recovered.ensures.ok;
}
