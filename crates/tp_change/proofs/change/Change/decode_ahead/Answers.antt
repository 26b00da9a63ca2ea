use Rattle.std.proofs.Common.{refl}
use Rattle.tp_change.specs.ChangeHash.{hash_of}
use Rattle.tp_change.proofs.change.Change.decode_ahead.Goals as goal

pub invariant_of-result : goal.invariant_of-result
unfolding hash_of
invariant_of-result c =
    let t = c.in_ok-body.ensures.found in
    (t.0, rw (c.digest.ensures, t.1) refl)
