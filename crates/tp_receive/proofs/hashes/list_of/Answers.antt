use Rattle.tp_receive.proofs.Common.{◌∙◌, ap, hash_of, List, Hash, has_hash}
use Rattle.tp_receive.proofs.HashLaws.{has_hash-push}
use Rattle.tp_receive.proofs.ComingLaws.{IsHashSetOf-more}
use Rattle.tp_receive.proofs.hashes.list_of.Goals as goal

pub loop-change-preserved : goal.loop-change-preserved
loop-change-preserved c =
    IsHashSetOf-more c.args.changes.now c.loop-change.change-index _ c.loop-change.hashes.items c.push.new.self.items c.hash.result
    c.loop-change-test.true c.loop-change.invariant (c.hash.ensures.hash ∙ ap hash_of c.change-item.is)
    (λ x. ap (λ (l : List Hash). has_hash l x) c.in_ok-push.ensures.items ∙ has_hash-push c.loop-change.hashes.items c.hash.result x)
