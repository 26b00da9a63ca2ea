use Rattle.std.proofs.Common.{◌≡◌, ap, subst, sym, ◌∙◌}
use Rattle.tp_journal.specs.Journal.{failing}
use Rattle.tp_peer.specs.Appending.{journal_state}
use Rattle.tp_peer.specs.Opening.{Reopens}
use Rattle.tp_peer.specs.PeerState.{PeerState}
use Rattle.tp_editor.specs.EditorState.{EditorState, new_editor}
use Rattle.tp_editor.proofs.opening.Editor+OptionalJournal.open.Goals as goal

pub returns-in-Ok-open_whole-clause-ok : goal.returns-in-Ok-open_whole-clause-ok
returns-in-Ok-open_whole-clause-ok c =
    let k = journal_state c.in-Ok.journal.file.content (failing c.in-Ok.journal.file.failures) in
    let same : c.in-Ok-open_whole.peer ≡ c.of.result.peer = sym (ap (λ (s : EditorState). s.peer) c.of.ensures) in
    record {
      journal = k;
      reopens = subst (λ (p : PeerState). Reopens k c.args.actor p) same c.in-Ok-open_whole.ensures.ok;
      whole = c.in-Ok-open_whole.ensures.whole;
      fresh = c.of.ensures ∙ ap new_editor same;
    }

pub returns-in-Err-open_whole-clause-err : goal.returns-in-Err-open_whole-clause-err
returns-in-Err-open_whole-clause-err c =
    (journal_state c.in-Ok.journal.file.content (failing c.in-Ok.journal.file.failures), c.in-Err-open_whole.ensures.err)
