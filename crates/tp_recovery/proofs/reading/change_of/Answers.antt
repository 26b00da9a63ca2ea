use Rattle.std.proofs.Common.{◌≡◌, false, true, inr, refl, sym}
use Rattle.tp_opid.specs.Same.{same_hash}
use Rattle.tp_opid.proofs.Orders.{same_hash-same}
use Rattle.tp_change.specs.ChangeHash.{hash_of}
use Rattle.tp_recovery.proofs.Laying.{wrong_digest}
use Rattle.tp_recovery.proofs.reading.change_of.Goals as goal

pub returns-then-not-is-clause-err : goal.returns-then-not-is-clause-err
returns-then-not-is-clause-err c =
    let found = c.in-Ok.ensures.found in
    let apart : same_hash (hash_of c.in-Ok.change) c.args.digest.now ≡ false = cc in
    inr (refl, wrong_digest c.in-Ok.change c.args.bytes.now c.args.digest.now found.0 found.1 apart)

pub returns-else-not-is-clause-found : goal.returns-else-not-is-clause-found
returns-else-not-is-clause-found c =
    let found = c.in-Ok.ensures.found in
    let same : same_hash (hash_of c.in-Ok.change) c.args.digest.now ≡ true = cc in
    (found.0, found.1, sym (same_hash-same (hash_of c.in-Ok.change) c.args.digest.now same))
