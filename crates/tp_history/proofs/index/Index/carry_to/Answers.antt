use Rattle.tp_history.proofs.Common.{inr, Some, cond, ◌∙◌, ap, Notes, note_at, same_hash-itself}
use Rattle.tp_opid.specs.Same.{same_hash}
use Rattle.tp_opid.specs.Order.{hash_cmp}
use Rattle.tp_history.proofs.NotesLaws.{noted_beside}
use Rattle.tp_history.proofs.index.Index.carry_to.Goals as goal

pub returns-clause-hashes : goal.returns-clause-hashes
unfolding same_hash hash_cmp
returns-clause-hashes c =
    noted_beside c.args.self.now.hashes _ c.args.hash c.args.place
    (λ other. c.in_ok-insert.ensures.updates.0 other ∙ ap (λ (n : Notes). cond (same_hash c.args.hash other) (Some c.args.place) (note_at n.hashes other)) c.self.view_is)

pub returns-clause-there : goal.returns-clause-there
unfolding same_hash hash_cmp
returns-clause-there c =
    inr (c.in_ok-insert.ensures.updates.0 c.args.hash ∙ ap (λ b. cond b (Some c.args.place) (note_at c.self.inside.clashing.entries c.args.hash)) (same_hash-itself c.args.hash))
