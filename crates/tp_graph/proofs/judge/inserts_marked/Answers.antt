use Rattle.tp_graph.proofs.Common.{◌≡◌, ◌∙◌, ◌-◌, ap, arith, true, false, same_actor, op_count, covers}
use Rattle.tp_graph.proofs.InsertLaws.{inserts_id-other, inserts_id-at}
use Rattle.tp_graph.proofs.MarkedLaws.{IsMarked-counted}
use Rattle.tp_graph.proofs.judge.inserts_marked.Goals as goal

pub returns-then-not-is : goal.returns-then-not-is
returns-then-not-is c =
    let apart : same_actor c.args.change.now.actor c.args.id.now.actor ≡ false = cc in
    inserts_id-other c.args.change.now c.args.id.now apart

pub returns : goal.returns
returns c =
    let x = c.args.change.now in
    let one : same_actor x.actor c.args.id.now.actor ≡ true = cc in
    let all : c.args.end - c.start-2.result ≡ op_count x = omega (arith, c.start-2.ensures, c.requires.end) in
    let tells = IsMarked-counted x c.args.deletes.now c.start.result _ c.start.ensures all c.requires.marked in
    inserts_id-at x c.args.id.now c.inserts_at.result one
    (c.inserts_at.ensures x.records tells ∙ ap (λ n. covers n x.records c.args.id.now.counter) c.start.ensures)
