use Rattle.tp_ancestry.proofs.Common.{subst, IfSome_then, AncestryState, ArePasts}
use Rattle.tp_ancestry.proofs.ancestry.Ancestry.span_at.Goals as goal

pub returns : goal.returns
returns c =
    let l = c.self.inside.lists in
    let pasts = subst (λ (s : AncestryState). ArePasts s.changes l.pasts.prefixes.items l.pasts.vectors.items) c.self.view_is c.self.invariant.pasts in
    IfSome_then c.span.result c.span.ensures (λ prefix known d at. known c.args.self.now.changes pasts d at)
