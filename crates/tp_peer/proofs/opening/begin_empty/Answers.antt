use Rattle.std.proofs.Common.{refl}
use Rattle.tp_recovery.proofs.RecoveryLaws.{recovers_or_refused}
use Rattle.tp_store.specs.declared.error.StoreError.TheVariants.{NoHeader}
use Rattle.tp_peer.proofs.opening.begin_empty.Goals as goal

pub returns-in-Ok-clause-err : goal.returns-in-Ok-clause-err
returns-in-Ok-clause-err g c =
    let recovers = rw c.in-Ok.is at c.requires.recovers in
    (λ unused. recovers_or_refused _ _ _ _ NoHeader recovers.0 unused, refl)
