use Rattle.tp_document.proofs.Common.{◌≡◌, ℕ, ◌+◌, ◌<◌, ◌≤◌, List, length, arith, Actor, ChangeParts, count_by, most_changes, count_by-length}
use Rattle.tp_document.proofs.making.next_seq.Goals as goal

small : (n : ℕ) (a : Actor) (C : List ChangeParts) → n ≡ count_by a C → length C ≤ most_changes → n + 1 < 18446744073709551616
small n a C is few = let within = count_by-length a C in omega arith

pub overflow_add-result : goal.overflow_add-result
overflow_add-result c =
    let fits = small c.count_by.result c.args.actor.now c.args.graph.now.applied c.count_by.ensures c.changes-changes.ensures.few in
    omega (arith, fits)

pub returns-clause-small : goal.returns-clause-small
returns-clause-small c = small c.count_by.result c.args.actor.now c.args.graph.now.applied c.count_by.ensures c.changes-changes.ensures.few
