use Rattle.tp_graph.proofs.Common.{◌≡◌, ◌≤◌, ◌+◌, ◌++◌, ◌∷◌, ◌∙◌, ap, sym, subst, arith, take, length, [], take_all, count_in, count_of, Marks}
use Rattle.tp_change.specs.Operations.{op_count}
use Rattle.tp_graph.proofs.BeforeLaws.{marks-none, taken, counted-more}
use Rattle.tp_graph.proofs.MarkedLaws.{IsMarked-all}
use Rattle.tp_graph.proofs.marked.mark_deletes.Goals as goal

pub loop-i-init : goal.loop-i-init
unfolding op_count
loop-i-init c =
    let same : count_of c.records-records.result.now ≡ count_of c.args.change.now.records = ap count_of c.records-records.ensures in
    let few : count_of c.args.change.now.records ≤ length c.args.deletes.now = c.requires.room in
    let room : count_of c.records-records.result.now ≤ length c.args.deletes.now = omega arith in
    (marks-none c.args.deletes.now c.args.change.now.start c.requires.clear, room)

pub put-count-requires : goal.put-count-requires
put-count-requires c =
    let counted : c.loop-i.count ≡ count_of (take c.loop-i.i c.records-records.result.now) = c.loop-i.invariant.0.counted in
    let more : count_of (take c.loop-i.i c.records-records.result.now) + count_in c.index-records-i.result ≤ count_of c.records-records.result.now
    = counted-more c.records-records.result.now c.loop-i.i c.index-records-i.result c.loop-i-test.true c.index-records-i.is in
    let room : count_of c.records-records.result.now ≤ length c.loop-i.deletes = c.loop-i.invariant.1 in
    omega arith

pub loop-i-preserved : goal.loop-i-preserved
loop-i-preserved c =
    let rs = c.records-records.result.now in
    let step : take (c.loop-i.i + 1) rs ≡ take c.loop-i.i rs ++ c.index-records-i.result ∷ []
    = taken rs c.loop-i.i c.index-records-i.result c.loop-i-test.true c.index-records-i.is in
    let len : length c.put-count.new.deletes ≡ length c.loop-i.deletes = c.put-count.ensures.len in
    let old : count_of rs ≤ length c.loop-i.deletes = c.loop-i.invariant.1 in
    let room : count_of rs ≤ length c.put-count.new.deletes = omega arith in (
      subst (Marks c.put-count.new.deletes c.args.change.now.start c.put-count.result) (sym step)
          (c.put-count.ensures.marks c.args.change.now.start (take c.loop-i.i rs) c.loop-i.invariant.0),
      room,
    )

pub returns : goal.returns
returns c =
    let rs = c.records-records.result.now in
    let whole : take c.loop-i.i rs ≡ c.args.change.now.records = take_all c.loop-i.i rs (omega (arith, c.loop-i-test.false)) ∙ c.records-records.ensures in
    IsMarked-all c.args.change.now c.loop-i.deletes c.loop-i.count (subst (Marks c.loop-i.deletes c.args.change.now.start c.loop-i.count) whole c.loop-i.invariant.0)
    (subst (λ l. count_of l ≤ length c.loop-i.deletes) c.records-records.ensures c.loop-i.invariant.1)
