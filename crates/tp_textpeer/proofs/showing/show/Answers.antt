use Rattle.std.proofs.Common.{List, inl, inr}
use Rattle.tp_layout.specs.declared.parts.ChangeParts.{ChangeParts}
use Rattle.tp_textpeer.specs.ShowFault.{IsOutsideFault}
use Rattle.tp_textpeer.specs.Log.{IsLog, IsLogFault}
use Rattle.tp_textpeer.proofs.Logs.{IfSome-map, IfSome-each, log_has_no_fault}
use Rattle.tp_textpeer.proofs.showing.show.Goals as goal

pub returns-clause-only : goal.returns-clause-only
returns-clause-only g c =
    let known = g.R.Read.remaining c.args.reader.now in
    let error = c.in-Err.error in
    elim c.in-Err.ensures.err [
      | inl outside ↦ IfSome-each known (λ b. (C : List ChangeParts) → IsLog b C → IsOutsideFault error.fault) (λ b C log. outside.0)
      | inr fault ↦ IfSome-map known (λ b. IsLogFault b error.change error.fault) (λ b. (C : List ChangeParts) → IsLog b C → IsOutsideFault error.fault)
          (λ b is C log. absurd (log_has_no_fault b C error.change error.fault log is)) fault
    ]
