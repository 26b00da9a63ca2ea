use Rattle.tp_graph.proofs.Common.{◌≡◌, ◌<◌, ◌∙◌, ap, sym, length, refl, Some, slice_get, slice_get_read, GraphState}
use Rattle.tp_graph.proofs.WaitingLaws.{IsWaiting-remove}
use Rattle.tp_graph.proofs.graph.Graph.release.Goals as goal

pub invariant_of-self : goal.invariant_of-self
invariant_of-self c =
    let g = c.self.inside in
    let small : c.args.i < length g.waiting.items = rw (ap (λ (s : GraphState). length s.waiting) c.self.view_is) c.requires in
    rw c.remove.ensures.items (IsWaiting-remove g.waiting.items c.args.i small c.self.invariant)

pub returns-clause-change : goal.returns-clause-change
returns-clause-change c =
    let g = c.self.inside in
    let small : c.args.i < length g.waiting.items = rw (ap (λ (s : GraphState). length s.waiting) c.self.view_is) c.requires in
    let found : slice_get g.waiting.items c.args.i ≡ Some c.remove.result =
    slice_get_read g.waiting.items (length g.waiting.items) c.args.i c.remove.result refl small c.remove.ensures.value in
    ap (λ (s : GraphState). slice_get s.waiting c.args.i) (sym c.self.view_is) ∙ found
