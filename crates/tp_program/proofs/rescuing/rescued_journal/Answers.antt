use Rattle.std.proofs.Common.{◌∙◌}
use Rattle.std.specs.String.{string_bytes}
use Rattle.tp_program.proofs.RescueLaws.{had_of_all}
use Rattle.tp_program.proofs.rescuing.rescued_journal.Goals as goal

pub returns-in-Ok : goal.returns-in-Ok
returns-in-Ok c =
    had_of_all c.journal_and_report.result (λ r. r.journal.items) (λ r. string_bytes r.text) (λ r. r.lacking) _ _ _ _ _ _ _ _ _ _ _ _ _ _ _
    c.id.ensures c.document_under-document.ensures.id c.document_under-document.ensures.applied (c.as_slice-in-Ok.ensures.value ∙ c.in-Ok.ensures) c.tail_start.ensures (c.len.ensures ∙ c.args.found.changes.ok.0) c.as_slice.ensures.value
    c.journal_and_report.ensures
