use Rattle.tp_graph.proofs.Common.{◌≡◌, ◌≤◌, ◌∙◌, ap, sym, true, false, same_actor, covers, only_inserts}
use Rattle.tp_graph.proofs.InsertLaws.{inserts_id-other, inserts_id-low, inserts_id-high, inserts_id-all, inserts_id-at}
use Rattle.tp_graph.proofs.judge.inserts_id.Goals as goal

pub returns-then-not-is : goal.returns-then-not-is
returns-then-not-is c =
    let apart : same_actor c.args.change.now.actor c.args.id.now.actor ≡ false = cc in
    inserts_id-other c.args.change.now c.args.id.now apart

pub returns-then-id-start : goal.returns-then-id-start
returns-then-id-start c = inserts_id-low c.args.change.now c.args.id.now (rw (← c.start.ensures) c.if-id-start.true)

pub returns-then-end-id : goal.returns-then-end-id
returns-then-end-id c = inserts_id-high c.args.change.now c.args.id.now c.args.end c.requires c.if-end-id.true

pub returns-then-only_inserts : goal.returns-then-only_inserts
returns-then-only_inserts c =
    let one : same_actor c.args.change.now.actor c.args.id.now.actor ≡ true = cc in
    let low : c.args.change.now.start ≤ c.args.id.now.counter = rw (← c.start.ensures) c.if-id-start.false in
    let all : only_inserts c.args.change.now.records ≡ true = sym (ap only_inserts c.records.ensures) ∙ sym c.only_inserts.ensures ∙ c.if-only_inserts.true in
    inserts_id-all c.args.change.now c.args.id.now c.args.end c.requires one all low c.if-end-id.false

pub returns : goal.returns
returns c =
    let one : same_actor c.args.change.now.actor c.args.id.now.actor ≡ true = cc in
    inserts_id-at c.args.change.now c.args.id.now c.covers.result one
    (c.covers.ensures ∙ ap (λ r. covers c.start-2.result r c.args.id.now.counter) c.records-2.ensures ∙ ap (λ n. covers n c.args.change.now.records c.args.id.now.counter) c.start-2.ensures)
