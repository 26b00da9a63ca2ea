use Rattle.tp_graph.proofs.Common.{◌∙◌, ◌+◌, ◌-◌, ◌&&◌, ◌++◌, sym, ap, id_of, ops_from, past_changes}
use Rattle.tp_change.specs.Elements as made
use Rattle.tp_graph.specs.Covers as cover
use Rattle.tp_graph.proofs.InsertLaws.{all_inserted-step, all_inserted-first, all_inserted-end}
use Rattle.tp_graph.proofs.applied.Applied.are_known.Goals as goal

pub loop-i-init : goal.loop-i-init
loop-i-init c = λ rs h.
    all_inserted-first (made.inserts_in (ops_from c.args.before.now.actor c.args.before.now.first rs) ++ made.inserts (past_changes c.args.past_set.now c.args.self.now.changes)) c.args.first.now c.args.count

pub loop-i-preserved : goal.loop-i-preserved
loop-i-preserved c = λ rs h.
    let S = made.inserts_in (ops_from c.args.before.now.actor c.args.before.now.first rs) ++ made.inserts (past_changes c.args.past_set.now c.args.self.now.changes) in
    let first = c.args.first.now in
    let i = c.loop-i.i in
    let count = c.args.count in
    let rest = cover.all_inserted S (id_of first.actor (first.counter + (i + 1))) (count - (i + 1)) in
    sym (ap (λ b. b && rest) (sym (c.is_known.ensures rs h) ∙ c.if-not-is_known.false))
    ∙ sym (all_inserted-step S first count i c.loop-i-test.true)
    ∙ c.loop-i.invariant rs h

pub returns-then-not-is_known : goal.returns-then-not-is_known
returns-then-not-is_known c = λ rs h.
    let S = made.inserts_in (ops_from c.args.before.now.actor c.args.before.now.first rs) ++ made.inserts (past_changes c.args.past_set.now c.args.self.now.changes) in
    let first = c.args.first.now in
    let i = c.loop-i.i in
    let count = c.args.count in
    let rest = cover.all_inserted S (id_of first.actor (first.counter + (i + 1))) (count - (i + 1)) in
    sym (ap (λ b. b && rest) (sym (c.is_known.ensures rs h) ∙ c.if-not-is_known.true))
    ∙ sym (all_inserted-step S first count i c.loop-i-test.true)
    ∙ c.loop-i.invariant rs h

pub returns : goal.returns
returns c = λ rs h.
    sym (all_inserted-end (made.inserts_in (ops_from c.args.before.now.actor c.args.before.now.first rs) ++ made.inserts (past_changes c.args.past_set.now c.args.self.now.changes)) c.args.first.now c.args.count c.loop-i.i c.loop-i-test.false)
    ∙ c.loop-i.invariant rs h
