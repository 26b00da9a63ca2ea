use Rattle.tp_message.proofs.Common.{◌≡◌, ◌⊎◌, ◌<◌, ap, arith, length, inl, inr, nat_tests, MAX_BYTES, need}
use Rattle.tp_message.proofs.JudgeLaws.{body_judged, whole_judged}
use Rattle.tp_message.proofs.ShortLaws.{whole_short}
use Rattle.tp_message.proofs.stages.judge.Goals.{then-len-eq0, else-len-eq0}
use Rattle.tp_message.proofs.stages.judge.Goals as goal

pub returns-then-field_len-left-clause-err : goal.returns-then-field_len-left-clause-err
returns-then-field_len-left-clause-err c = λ m rest len.
    let lt : length rest < need c.args.stage = omega (arith, len, c.if-field_len-left.true, c.field_len.ensures) in
    whole_short c.args.stage m rest lt

pub returns-in-Whole-clause-err : goal.returns-in-Whole-clause-err
returns-in-Whole-clause-err c = λ m rest len. rw c.in-Whole.is (whole_judged m rest (omega (arith, len, c.if-left-gt0.true)))

pub returns-in-Body-clause-err : goal.returns-in-Body-clause-err
returns-in-Body-clause-err c = λ m rest len.
    let size : need c.args.stage ≡ c.in-Body.len = ap need c.in-Body.is in
    let bad : (c.in-Body.len ≡ 0) ⊎ (MAX_BYTES < c.in-Body.len) = elim c.if-len-eq0.branch [ then-len-eq0 w ↦ inl (omega arith) | else-len-eq0 w ↦ inr (grind (arith, nat_tests)) ] in
    rw c.in-Body.is (body_judged c.in-Body.len c.in-Body.more m rest (omega (arith, len, size, c.field_len.ensures, c.if-field_len-left.false)) bad)
