use Rattle.tp_graph.proofs.Common.{◌∙◌, sym, ap, subst, hash_of, IsKnown, AncestryState}
use Rattle.tp_graph.specs.Ready.{made_for}
use Rattle.tp_graph.proofs.ReadyLaws.{ready_room}
use Rattle.tp_graph.proofs.applied.Applied.enter.Goals as goal

pub enter-requires-clause-past : goal.enter-requires-clause-past
enter-requires-clause-past c =
    let g = c.self.inside in
    let C = g.ancestry.changes in
    let r = c.in-Some.room in
    let ready = ready_room g g.ancestry.room g.room (hash_of c.args.change) r (ap (λ (s : AncestryState). s.room) c.self.view_is ∙ c.requires.room) (sym c.take.ensures.value ∙ c.in-Some.is) c.self.invariant.ready in
    let past = subst (λ H. IsKnown C (made_for H r.deps) r.past) (sym c.heads-heads.ensures) ready.past in
    subst (λ H. IsKnown C H c.vector_for-past.result) c.deps.ensures (c.vector_for-past.ensures C past)

pub invariant_of-self : goal.invariant_of-self
invariant_of-self c = record {
  marked = rw c.enter.ensures.changes (c.keep.ensures c.self.inside.ancestry.changes c.len-place.ensures.len c.self.invariant.marked);
  ready = rw c.enter.ensures.room tt;
}
