use Rattle.tp_graph.proofs.Common.{◌≡◌, ◌<◌, ◌∙◌, ap, length, false, is_ok, hash_of, has, GraphState, most_waiting}
use Rattle.tp_graph.proofs.WaitingLaws.{IsWaiting-held}
use Rattle.tp_graph.proofs.graph.Graph.hold.Goals as goal

pub invariant_of-self : goal.invariant_of-self
invariant_of-self c =
    let g = c.self.inside in
    let small : length g.waiting.items < most_waiting = rw (ap (λ (s : GraphState). length s.waiting) c.self.view_is) c.requires.few in
    let new : has g.waiting.items (hash_of c.args.change) ≡ false = ap (λ (s : GraphState). has s.waiting (hash_of c.args.change)) c.self.view_is ∙ c.requires.apart in
    IsWaiting-held g.waiting.items c.push.new.self.items c.args.change (is_ok c.push.result) c.self.invariant small new c.push.ensures.items
