use Rattle.tp_receive.proofs.Common.{◌∙◌, ap, ◌++◌, ◌∷◌, [], ChangeParts}
use Rattle.tp_receive.specs.Receiving as receiving
use Rattle.tp_receive.proofs.HashLaws.{held_of-more}
use Rattle.tp_receive.proofs.hashes.held_among.Goals as goal

pub loop-change-preserved : goal.loop-change-preserved
loop-change-preserved c = λ K e.
    held_of-more (receiving.hashes K) c.args.changes.now c.loop-change.change-index c.change-item.result c.loop-change.held.items c.note_held.new.held.items
    c.loop-change-test.true (c.loop-change.invariant K e)
    (c.in_ok-note_held.ensures K e ∙ ap (λ (x : ChangeParts). c.loop-change.held.items ++ receiving.held_of (receiving.hashes K) (x ∷ [])) c.change-item.is)
