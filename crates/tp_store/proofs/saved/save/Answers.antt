use Rattle.std.proofs.Common.{List, ap, subst, ◌∙◌}
use Rattle.tp_opid.specs.declared.doc_id.DocId.{DocId}
use Rattle.tp_layout.specs.declared.parts.ChangeParts.{ChangeParts}
use Rattle.tp_list.specs.Bytes.{IsBytes}
use Rattle.tp_store.specs.Saved.{saved_file}
use Rattle.tp_store.proofs.WholeFile.{written}
use Rattle.tp_store.proofs.saved.save.Goals as goal

pub returns-clause-bytes : goal.returns-clause-bytes
returns-clause-bytes g c =
    let id = c.id-id.result in
    let C = c.changes-changes.result.now in
    record {
      spelled =
          written id C c.in_ok-out.out.items c.put_header.new.out.items c.in_ok-whole.whole.items c.put_digest.new.out.items
          c.in_ok-out.ensures.items c.in_ok-put_header.ensures c.in_ok-whole.ensures.bytes c.in_ok-put_digest.ensures
          ∙ ap (λ (i : DocId). saved_file i C) c.id-id.ensures
          ∙ ap (λ (l : List ChangeParts). saved_file c.args.document.now.id l) c.changes-changes.ensures.changes;
      can = record {
        identifier = subst (λ (i : DocId). IsBytes 16 i.0) c.id-id.ensures c.array_len-bytes.ensures.bytes;
        sound = c.changes-changes.ensures.sound;
        limits = c.changes-changes.ensures.limits;
        few = c.changes-changes.ensures.few;
      };
    }
