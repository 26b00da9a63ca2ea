use Rattle.tp_document.proofs.Common.{◌≡◌, ◌≤◌, Some, ap, subst, ◌∙◌, slice_get, ChangeParts, hash_of, op_count, DocState, get_or_from_slice_get, OnOk-map}
use Rattle.tp_document.proofs.document.Document.ready_waiting.Goals as goal

pub returns-clause-room : goal.returns-clause-room
returns-clause-room g c x is =
    let i = c.args.i in
    let here : slice_get c.self.inside.graph.waiting i ≡ Some x = ap (λ (d : DocState). slice_get d.waiting i) c.self.view_is ∙ is in
    let item : c.index-pending-i.result ≡ x = c.index-pending-i.is ∙ get_or_from_slice_get c.pending.result.now i x _ (ap (λ l. slice_get l i) c.pending.ensures.pending ∙ here) in
    let space : op_count x ≤ g.S.Sequence.room c.reserve.new.self = subst (λ (y : ChangeParts). op_count y ≤ g.S.Sequence.room c.reserve.new.self) item (subst (λ n. n ≤ g.S.Sequence.room c.reserve.new.self) c.op_count-count.ensures c.in_ok-reserve.ensures.ok) in
    OnOk-map {P = c.ready_waiting.new.self.room ≡ Some (hash_of x)} c.ready_waiting.result (λ noted. record { noted = noted; space = space }) (c.ready_waiting.ensures.room x here)
