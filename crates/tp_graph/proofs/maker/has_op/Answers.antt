use Rattle.tp_graph.proofs.Common.{◌≡◌, ◌+◌, ◌<◌, ◌≤◌, ◌∙◌, sym, subst, arith, nat_tests, true, Some, same_actor, ChangeParts, op_count}
use Rattle.tp_history.proofs.PlacesLaws.{end_at}
use Rattle.tp_graph.proofs.maker.has_op.Goals as goal

pub returns-then-start-id : goal.returns-then-start-id
returns-then-start-id c = λ before x at.
    let d = c.at-change.result.now in
    let id = c.args.id.now in
    let same : Some d ≡ Some x = sym c.at-change.ensures ∙ at in
    let one : d ≡ x = cc in
    let mine : same_actor d.actor id.actor ≡ true = cc in
    let start : c.start.result ≡ d.start = c.start.ensures in
    let from : c.start.result ≤ id.counter = c.if-start-id.true in
    let low : d.start ≤ id.counter = omega arith in
    let end : c.end_at.result ≡ x.start + op_count x = c.end_at.ensures ∙ end_at c.args.ancestry.now.changes c.args.place x at in
    let under : id.counter < c.end_at.result = grind (arith, nat_tests) in
    record {
      actor = subst (λ (y : ChangeParts). same_actor y.actor id.actor ≡ true) one mine;
      low = subst (λ (y : ChangeParts). y.start ≤ id.counter) one low;
      high = omega arith;
    }
