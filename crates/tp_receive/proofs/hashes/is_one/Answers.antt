use Rattle.tp_receive.proofs.Common.{ap, get_or, sym, not_true, same_hash, Hash, same_hash-same}
use Rattle.tp_receive.proofs.hashes.is_one.Goals as goal

-- hashes whose first bytes differ aren't one
pub returns-then-x-y : goal.returns-then-x-y
returns-then-x-y c =
    sym (not_true (same_hash c.args.x.now c.args.y.now)
    (λ same. c.if-x-y.true (ap (λ (h : Hash). get_or h.0 0 0) (same_hash-same c.args.x.now c.args.y.now same))))
