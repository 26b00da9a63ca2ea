use Rattle.tp_graph.proofs.Common.{◌≡◌, ◌≤◌, ◌∙◌, ◌++◌, List, Bool, length, sym, ap, arith, append-nil, drop_all, places_from, bits}
use Rattle.tp_ancestry.proofs.VectorLaws.{length-bits}
use Rattle.tp_graph.proofs.past.places_in.Goals as goal

pub returns : goal.returns
returns c =
    let marks : List Bool = bits c.args.past_set.now c.args.ancestry.now.changes in
    let long : length marks ≡ length c.args.ancestry.now.changes = length-bits c.args.past_set.now c.args.ancestry.now.changes c.requires in
    let past : length marks ≤ c.loop-i.i = omega (arith, c.loop-i-test.false) in
    sym (append-nil c.loop-i.places.items)
    ∙ ap (λ l. c.loop-i.places.items ++ places_from c.loop-i.i l) (sym (drop_all c.loop-i.i marks past))
    ∙ c.loop-i.invariant
