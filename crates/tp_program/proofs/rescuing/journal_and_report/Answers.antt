use Rattle.std.proofs.Common.{◌∙◌, ap}
use Rattle.tp_opid.specs.declared.doc_id.DocId.{DocId}
use Rattle.tp_program.specs.Rescuing.{rescue_text}
use Rattle.tp_program.proofs.rescuing.journal_and_report.Goals as goal

-- what is printed has the identifier that the document had before
pub returns : goal.returns
returns c = (
  c.journal_with-made.new.document.applied,
  c.in_ok-made.ensures.rescues,
  c.in_ok-made.ensures.journal,
  c.in_ok-lacking.ensures,
  c.in_ok-text.ensures
      ∙ ap (λ (id : DocId). rescue_text c.args.damaged.own id c.journal_with-made.new.document.applied c.args.damaged.from c.args.damaged.to c.args.records.now c.args.changes.now)
      c.journal_with-made.ensures.id,
)
