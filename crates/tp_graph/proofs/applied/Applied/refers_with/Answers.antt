use Rattle.tp_graph.proofs.Common.{◌≡◌, ◌≤◌, ◌+◌, ◌++◌, ◌∷◌, ◌∙◌, ap, sym, refl, subst, arith, false, take, length, [], AllByRecursion, IsRecord, count_in, count_of, Marks, past_changes}
use Rattle.tp_change.specs.Elements as made
use Rattle.tp_change.specs.Operations.{op_count}
use Rattle.tp_graph.specs.Covers as cover
use Rattle.tp_graph.proofs.BeforeLaws.{marks-none, taken, counted-more}
use Rattle.tp_graph.proofs.InsertLaws.{refers-all_there, record_at, count_of-take, all_there-stop, all_there-on, all_there-end}
use Rattle.tp_graph.proofs.applied.Applied.refers_with.Goals as goal

pub loop-i-init : goal.loop-i-init
unfolding op_count
loop-i-init c =
    let same : count_of c.records-records.result.now ≡ count_of c.args.change.now.records = ap count_of c.records-records.ensures in
    let few : count_of c.args.change.now.records ≤ length c.args.deletes.now = c.requires.room in
    let room : count_of c.records-records.result.now ≤ length c.args.deletes.now = omega arith in
    (refl, marks-none c.args.deletes.now c.start-first.result c.requires.clear, room)

pub is_there-requires-clause-entry : goal.is_there-requires-clause-entry
is_there-requires-clause-entry c =
    record_at c.records-records.result.now c.loop-i.i c.index-records-i.result
    (subst (AllByRecursion IsRecord) (sym c.records-records.ensures) c.hash-hash.ensures.limits.records) c.loop-i-test.true c.index-records-i.is

pub is_there-requires-clause-room : goal.is_there-requires-clause-room
is_there-requires-clause-room c =
    let counted : c.loop-i.count ≡ count_of (take c.loop-i.i c.records-records.result.now) = c.loop-i.invariant.1.counted in
    let prefix : count_of (take c.loop-i.i c.records-records.result.now) ≤ count_of c.records-records.result.now = count_of-take c.records-records.result.now c.loop-i.i in
    let room : count_of c.records-records.result.now ≤ length c.loop-i.deletes = c.loop-i.invariant.2 in
    omega arith

pub put-count-requires : goal.put-count-requires
put-count-requires c =
    let counted : c.loop-i.count ≡ count_of (take c.loop-i.i c.records-records.result.now) = c.loop-i.invariant.1.counted in
    let more : count_of (take c.loop-i.i c.records-records.result.now) + count_in c.index-records-i-in-loop-i.result ≤ count_of c.records-records.result.now
    = counted-more c.records-records.result.now c.loop-i.i c.index-records-i-in-loop-i.result c.loop-i-test.true c.index-records-i-in-loop-i.is in
    let room : count_of c.records-records.result.now ≤ length c.loop-i.deletes = c.loop-i.invariant.2 in
    omega arith

pub returns-then-not-is_there : goal.returns-then-not-is_there
returns-then-not-is_there c =
    let S = made.inserts (past_changes c.args.past_set.now c.args.self.now.changes) in
    let no : c.is_there.result ≡ false = c.if-not-is_there.true in
    sym (refers-all_there S c.args.change.now c.hash-hash.ensures.limits
    ∙ ap (λ r. cover.all_there c.args.change.now.actor c.args.change.now.start S [] r) (sym c.records-records.ensures)
    ∙ ap (λ a. cover.all_there a c.args.change.now.start S [] c.records-records.result.now) (sym c.actor-actor.ensures)
    ∙ ap (λ n. cover.all_there c.actor-actor.result n S [] c.records-records.result.now) (sym c.start-first.ensures)
    ∙ sym c.loop-i.invariant.0
    ∙ all_there-stop c.actor-actor.result c.start-first.result S c.records-records.result.now c.loop-i.i c.index-records-i.result c.loop-i-test.true c.index-records-i.is
    (sym (c.is_there.ensures (take c.loop-i.i c.records-records.result.now) c.loop-i.invariant.1) ∙ no))

pub returns : goal.returns
returns c =
    let S = made.inserts (past_changes c.args.past_set.now c.args.self.now.changes) in
    sym (refers-all_there S c.args.change.now c.hash-hash.ensures.limits
    ∙ ap (λ r. cover.all_there c.args.change.now.actor c.args.change.now.start S [] r) (sym c.records-records.ensures)
    ∙ ap (λ a. cover.all_there a c.args.change.now.start S [] c.records-records.result.now) (sym c.actor-actor.ensures)
    ∙ ap (λ n. cover.all_there c.actor-actor.result n S [] c.records-records.result.now) (sym c.start-first.ensures)
    ∙ sym c.loop-i.invariant.0
    ∙ all_there-end c.actor-actor.result c.start-first.result S c.records-records.result.now c.loop-i.i c.loop-i-test.false)

pub loop-i-preserved : goal.loop-i-preserved
loop-i-preserved c =
    let S = made.inserts (past_changes c.args.past_set.now c.args.self.now.changes) in
    let rs = c.records-records.result.now in
    let step : take (c.loop-i.i + 1) rs ≡ take c.loop-i.i rs ++ c.index-records-i-in-loop-i.result ∷ []
    = taken rs c.loop-i.i c.index-records-i-in-loop-i.result c.loop-i-test.true c.index-records-i-in-loop-i.is in
    let len : length c.put-count.new.deletes ≡ length c.loop-i.deletes = c.put-count.ensures.len in
    let old : count_of rs ≤ length c.loop-i.deletes = c.loop-i.invariant.2 in
    let room : count_of rs ≤ length c.put-count.new.deletes = omega arith in (
      all_there-on c.actor-actor.result c.start-first.result S rs c.loop-i.i c.index-records-i.result c.loop-i-test.true c.index-records-i.is
          (sym (c.is_there.ensures (take c.loop-i.i rs) c.loop-i.invariant.1) ∙ c.if-not-is_there.false)
          ∙ c.loop-i.invariant.0,
      subst (Marks c.put-count.new.deletes c.start-first.result c.put-count.result) (sym step)
          (c.put-count.ensures.marks c.start-first.result (take c.loop-i.i rs) c.loop-i.invariant.1),
      room,
    )
