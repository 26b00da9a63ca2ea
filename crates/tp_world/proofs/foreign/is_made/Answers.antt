use Rattle.tp_world.proofs.Common.{sym, ◌∙◌, same_hash-same}
use Rattle.tp_world.proofs.ForeignLaws.{made_if_same, not_made}
use Rattle.tp_world.proofs.foreign.is_made.Goals as goal

pub returns-then-is-clause-ok : goal.returns-then-is-clause-ok
returns-then-is-clause-ok c =
    made_if_same c.args.made.now c.args.change.now c.other-item.result c.loop-other.other-index c.is_same.result c.requires c.loop-other-test.true c.other-item.is
    (sym c.hash.ensures.hash ∙ same_hash-same _ _ (sym c.is.ensures ∙ c.if-is.true) ∙ c.hash-hash.ensures.hash) c.is_same.ensures.ok

pub returns-clause-ok : goal.returns-clause-ok
returns-clause-ok c = not_made c.args.made.now c.args.change.now c.hash-hash.result c.loop-other.other-index c.hash-hash.ensures.hash c.loop-other-test.false c.loop-other.invariant
