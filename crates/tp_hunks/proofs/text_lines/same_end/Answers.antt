use Rattle.std.proofs.Common.{◌∙◌, sym, arith}
use Rattle.tp_hunks.proofs.LineLists.{back_all, back_all_other, back_no, back_yes, end_ends}
use Rattle.tp_hunks.proofs.text_lines.same_end.Goals as goal

pub loop-same-preserved : goal.loop-same-preserved
loop-same-preserved c =
    let more = back_yes c.args.a.now c.args.b.now c.loop-same.same _ _ c.loop-same-test.true c.if-same-b.true (sym c.eq.ensures ∙ c.if-eq.true) in
    record { few = omega (arith, c.loop-same-test.true); others = omega (arith, c.if-same-b.true); same = omega (arith, more, c.loop-same.invariant.same) }

pub returns-else-eq-clause-same : goal.returns-else-eq-clause-same
returns-else-eq-clause-same c =
    end_ends c.args.a.now c.args.b.now c.loop-same.same c.loop-same.invariant.same
    (back_no c.args.a.now c.args.b.now c.loop-same.same _ _ c.loop-same-test.true c.if-same-b.true (sym c.eq.ensures ∙ c.if-eq.false))

pub returns-else-same-b-clause-same : goal.returns-else-same-b-clause-same
returns-else-same-b-clause-same c =
    end_ends c.args.a.now c.args.b.now c.loop-same.same c.loop-same.invariant.same (back_all_other c.args.a.now c.args.b.now c.loop-same.same c.if-same-b.false)

pub returns-after-loop-same-clause-same : goal.returns-after-loop-same-clause-same
returns-after-loop-same-clause-same c =
    end_ends c.args.a.now c.args.b.now c.loop-same.same c.loop-same.invariant.same (back_all c.args.a.now c.args.b.now c.loop-same.same c.loop-same-test.false)
