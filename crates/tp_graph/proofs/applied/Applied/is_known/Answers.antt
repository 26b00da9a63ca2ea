use Rattle.tp_graph.proofs.Common.{◌≡◌, ◌∙◌, sym, true, false, same_actor, past_changes}
use Rattle.tp_change.specs.Elements as made
use Rattle.tp_graph.specs.Covers as cover
use Rattle.tp_graph.proofs.InsertLaws.{known_other, known_covered, known_uncovered}
use Rattle.tp_graph.proofs.applied.Applied.is_known.Goals as goal

pub returns-then-not-is : goal.returns-then-not-is
returns-then-not-is c = λ rs h.
    let apart : same_actor c.args.before.now.actor c.args.id.now.actor ≡ false = cc in
    known_other c.args.before.now.actor c.args.before.now.first rs (made.inserts (past_changes c.args.past_set.now c.args.self.now.changes)) c.args.id.now c.is_inserted.result apart c.is_inserted.ensures

pub returns-then-inserts_at : goal.returns-then-inserts_at
returns-then-inserts_at c = λ rs h.
    let one : same_actor c.args.before.now.actor c.args.id.now.actor ≡ true = cc in
    let there : cover.covers c.args.before.now.first rs c.args.id.now.counter ≡ true = sym (c.inserts_at.ensures rs h) ∙ c.if-inserts_at.true in
    known_covered c.args.before.now.actor c.args.before.now.first rs (made.inserts (past_changes c.args.past_set.now c.args.self.now.changes)) c.args.id.now one there

pub returns : goal.returns
returns c = λ rs h.
    let one : same_actor c.args.before.now.actor c.args.id.now.actor ≡ true = cc in
    let apart : cover.covers c.args.before.now.first rs c.args.id.now.counter ≡ false = sym (c.inserts_at.ensures rs h) ∙ c.if-inserts_at.false in
    known_uncovered c.args.before.now.actor c.args.before.now.first rs (made.inserts (past_changes c.args.past_set.now c.args.self.now.changes)) c.args.id.now c.is_inserted-2.result one apart c.is_inserted-2.ensures
