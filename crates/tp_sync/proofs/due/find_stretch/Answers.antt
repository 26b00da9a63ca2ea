use Rattle.tp_sync.proofs.Common.{◌≡◌, ◌∙◌, ap, arith, length, sym, marks_since, length-marks_since}
use Rattle.tp_sync.proofs.NextLaws.{begins_anew, goes_on}
use Rattle.tp_sync.proofs.due.find_stretch.Goals as goal

pub returns-then-first-len : goal.returns-then-first-len
returns-then-first-len c = λ H K is.
    let C = c.args.graph.now.applied in
    let long : length c.changes-len.result.now ≡ length (marks_since C H K) = ap length c.changes-len.ensures.changes ∙ sym (length-marks_since C H K) in
    goes_on (marks_since C H K) c.args.next c.next_outside-first.result (length c.changes-len.result.now) long c.if-first-len.true (c.next_outside-first.ensures H K is)

pub returns : goal.returns
returns c = λ H K is.
    let C = c.args.graph.now.applied in
    let long : length c.changes-len.result.now ≡ length (marks_since C H K) = ap length c.changes-len.ensures.changes ∙ sym (length-marks_since C H K) in
    begins_anew (marks_since C H K) c.args.next c.next_outside-first.result c.next_outside_before.result c.min-end.result (length c.changes-len.result.now) long (omega (arith, c.if-first-len.false)) (c.next_outside-first.ensures H K is)
    c.min-end.ensures (c.next_outside_before.ensures H K is)
