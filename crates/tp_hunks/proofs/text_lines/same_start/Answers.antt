use Rattle.std.proofs.Common.{◌∙◌, sym}
use Rattle.std.proofs.lemmas.List.Sums.{common_prefix_len-drop_no}
use Rattle.tp_hunks.proofs.LineLists.{alike, prefix_at_end, prefix_at_other_end, start_ends}
use Rattle.tp_hunks.proofs.text_lines.same_start.Goals as goal

pub returns-else-eq-clause-same : goal.returns-else-eq-clause-same
returns-else-eq-clause-same c =
    start_ends c.args.a.now c.args.b.now c.loop-same.same c.loop-same.invariant.same
    (common_prefix_len-drop_no alike c.args.a.now c.args.b.now c.loop-same.same _ _ c.loop-same-test.true c.if-same-b.true (sym c.eq.ensures ∙ c.if-eq.false))

pub returns-else-same-b-clause-same : goal.returns-else-same-b-clause-same
returns-else-same-b-clause-same c =
    start_ends c.args.a.now c.args.b.now c.loop-same.same c.loop-same.invariant.same (prefix_at_other_end c.args.a.now c.args.b.now c.loop-same.same c.if-same-b.false)

pub returns-after-loop-same-clause-same : goal.returns-after-loop-same-clause-same
returns-after-loop-same-clause-same c =
    start_ends c.args.a.now c.args.b.now c.loop-same.same c.loop-same.invariant.same (prefix_at_end c.args.a.now c.args.b.now c.loop-same.same c.loop-same-test.false)
