use Rattle.tp_document.proofs.Common.{◌≡◌, ◌≤◌, None, subst, sym, ap, ◌∙◌, op_count, length-ops_of, cause, DocState, DocumentInvariant}
use Rattle.tp_document.proofs.SoundText.{DocumentInvariant-applies, DocumentInvariant-push}
use Rattle.tp_document.proofs.document.Document.enter.Goals as goal

pub apply_change-requires-clause-fits : goal.apply_change-requires-clause-fits
apply_change-requires-clause-fits g c =
    let S = g.S.Sequence in
    let none : cause c.self.inside.graph.applied c.args.change ≡ None = ap (λ (d : DocState). cause d.applied c.args.change) c.self.view_is ∙ c.requires.enters in
    DocumentInvariant-applies c.self.inside.graph.applied (S.placed c.self.inside.sequence) (S.removals c.self.inside.sequence) c.args.change c.self.invariant none

pub apply_change-requires-clause-room : goal.apply_change-requires-clause-room
apply_change-requires-clause-room g c =
    let S = g.S.Sequence in
    let space : op_count c.args.change ≤ S.room c.self.inside.sequence = subst (λ (d : DocState). op_count c.args.change ≤ d.space) (sym c.self.view_is) c.requires.room.space in
    subst (λ n. n ≤ S.room c.self.inside.sequence) (sym (length-ops_of c.args.change)) space

pub invariant_of-self : goal.invariant_of-self
invariant_of-self g c =
    let S = g.S.Sequence in
    let C = c.self.inside.graph.applied in
    let x = c.args.change in
    let none : cause C x ≡ None = ap (λ (d : DocState). cause d.applied x) c.self.view_is ∙ c.requires.enters in
    let after = S.placed c.apply_change.new.sequence in
    let deleted = S.removals c.apply_change.new.sequence in
    subst (λ D. DocumentInvariant D after deleted) (sym c.enter.ensures.applied)
    (DocumentInvariant-push C (S.placed c.self.inside.sequence) after (S.removals c.self.inside.sequence) deleted x c.self.invariant none c.hash-hash.ensures.limits c.apply_change.ensures.elements c.apply_change.ensures.removals)
