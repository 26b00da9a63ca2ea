use Rattle.std.proofs.Common.{◌∙◌, subst, sym}
use Rattle.std.specs.Prelude.{IsTrue}
use Rattle.std.specs.List.{list_all}
use Rattle.std.specs.String.{string_bytes}
use Rattle.tp_opid.specs.Same.{same_doc}
use Rattle.tp_opid.specs.declared.doc_id.DocId.{DocId}
use Rattle.tp_program.specs.Rescuing.{id_chosen}
use Rattle.tp_program.proofs.RescueLaws.{rescued}
use Rattle.tp_program.proofs.rescuing.rescue_report.Goals as goal

pub returns : goal.returns
returns c =
    let found = c.in_ok-found.found in
    let agree : IsTrue (list_all (same_doc (id_chosen found.document.applied found.document.id c.args.ids.now)) c.args.ids.now) =
    subst (λ (i : DocId). IsTrue (list_all (same_doc i) c.args.ids.now)) c.chosen_id.ensures (sym c.are_all.ensures ∙ c.if-not-are_all.false) in
    rescued c.args.bytes.now c.rescued_journal.result (λ r. r.journal.items) (λ r. string_bytes r.text) (λ r. r.lacking) found.document.id found.document.applied found.changes.items
    c.args.more.items c.args.ids.now found.keep found.fault found.records.items c.in_ok-found.ensures.ok.0 agree c.rescued_journal.ensures
