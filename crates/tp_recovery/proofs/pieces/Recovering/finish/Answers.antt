use Rattle.std.proofs.Common.{inl, inr}
use Rattle.tp_recovery.proofs.PieceLaws.{held_end, refused_end}
use Rattle.tp_recovery.proofs.RecoveryLaws.{recovers_or_refused}
use Rattle.tp_recovery.proofs.pieces.Recovering.finish.Goals as goal

pub returns-in-Refused-clause-only : goal.returns-in-Refused-clause-only
returns-in-Refused-clause-only g c id C keep recovers =
    elim (refused_end c.args.self c.self.inside.came.bytes c.self.inside.rest.items c.self.inside.stage c.in-Refused.error c.self.view_is c.in-Refused.is c.self.invariant) [
      | inl memory ↦ memory
      | inr refused ↦ absurd (recovers_or_refused c.args.self id C keep c.in-Refused.error recovers refused)
    ]

pub returns-in-Refused-clause-err : goal.returns-in-Refused-clause-err
returns-in-Refused-clause-err g c =
    refused_end c.args.self c.self.inside.came.bytes c.self.inside.rest.items c.self.inside.stage c.in-Refused.error c.self.view_is c.in-Refused.is c.self.invariant

pub returns-in-Records-clause-tail : goal.returns-in-Records-clause-tail
returns-in-Records-clause-tail g c =
    held_end c.args.self c.self.inside.came.bytes c.self.inside.rest.items c.self.inside.stage c.in-Records.recovered c.self.view_is c.in-Records.is c.self.invariant
