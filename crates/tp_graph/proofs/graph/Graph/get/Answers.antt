use Rattle.tp_graph.proofs.Common.{◌≡◌, ◌∙◌, List, false, ap, subst, In, ChangeParts, hash_of, has, AncestryState, GraphState}
use Rattle.tp_history.proofs.PlacesLaws.{has-from_place, change_at}
use Rattle.tp_graph.proofs.graph.Graph.get.Goals as goal

pub returns-in-Some : goal.returns-in-Some
returns-in-Some c =
    let D = c.ancestry-ancestry.result.now.changes in
    let x = c.at.result.now in
    let h = c.args.hash.now in
    let same : D ≡ c.args.self.now.applied = ap (λ (s : AncestryState). s.changes) c.ancestry-ancestry.ensures ∙ ap (λ (g : GraphState). g.applied) c.self.view_is in
    subst (λ (C : List ChangeParts). In x C × (hash_of x ≡ h)) same (change_at D h c.in-Some.place _ c.in-Some.ensures.place c.at.ensures)

pub returns-in-None : goal.returns-in-None
returns-in-None c =
    let D = c.ancestry-ancestry.result.now.changes in
    let h = c.args.hash.now in
    let same : D ≡ c.args.self.now.applied = ap (λ (s : AncestryState). s.changes) c.ancestry-ancestry.ensures ∙ ap (λ (g : GraphState). g.applied) c.self.view_is in
    subst (λ (C : List ChangeParts). has C h ≡ false) same (has-from_place D h c.in-None.ensures.place)
