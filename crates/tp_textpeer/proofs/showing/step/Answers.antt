use Rattle.std.proofs.Common.{inl, inr}
use Rattle.tp_textpeer.proofs.Logs.{IsAfterLog-push, IsLogFault-link}
use Rattle.tp_textpeer.proofs.showing.step.Goals as goal

pub returns-in-Ok-clause-more : goal.returns-in-Ok-clause-more
returns-in-Ok-clause-more g c _ whole C present kept =
    let read = rw c.in-Ok-Some.field-0-is at c.in-Ok-Some.ensures.some in
    let put = c.in-Ok.ensures.ok C present.count kept in
    (c.in-Ok-Some.change, IsAfterLog-push whole _ _ c.args.count C c.in-Ok-Some.change present read.0 put.0 read.1, put.1)

pub returns-in-Ok-Some-clause-err : goal.returns-in-Ok-Some-clause-err
returns-in-Ok-Some-clause-err g c =
    let read = rw c.in-Ok-Some.field-0-is at c.in-Ok-Some.ensures.some in
    elim c.in-Err-admit.ensures.err [
      | inl memory ↦ inl (inl memory)
      | inr bad ↦ inr (λ whole C present kept. IsLogFault-link whole _ _ c.args.count C c.in-Ok-Some.change c.in-Err-admit.fault present read.0 read.1 (bad C present.count kept))
    ]
