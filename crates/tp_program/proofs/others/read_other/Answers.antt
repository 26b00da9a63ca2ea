use Rattle.std.proofs.Common.{◌∙◌, ◌++◌, Option, ap, refl}
use Rattle.tp_opid.specs.declared.doc_id.DocId.{DocId}
use Rattle.tp_program.specs.Rescuing.{Other, id_in, header_ids}
use Rattle.tp_program.proofs.RescueLaws.{then_on}
use Rattle.tp_program.proofs.others.read_other.Goals as goal

pub returns : goal.returns
returns g c =
    let o : Other = record { path = c.args.path.now; bytes = c.in_ok-bytes.bytes.items; records = c.in_ok-_records._records.items; changes = c.in_ok-_records.changes.items } in
    let found = rw c.deref.ensures.value at c.in_ok-_records.ensures.ok in
    let id = c.header_id.ensures ∙ ap id_in c.deref-2.ensures.value in
    then_on c.put_id.result c.put_id.ensures
    (λ ids. (o, refl, record { read = c.in_ok-bytes.ensures; found = found }, c.in_ok-append.ensures.items, ids ∙ ap (λ (i : Option DocId). c.args.others.now.ids.items ++ header_ids i) id))
