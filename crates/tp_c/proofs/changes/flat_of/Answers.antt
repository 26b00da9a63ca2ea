use Rattle.std.proofs.Common.{arith, ap, length, ◌∙◌}
use Rattle.tp_c.specs.Changes.{inserted_in}
use Rattle.tp_c.proofs.NumberLaws.{inserted_most, inserted_ops}
use Rattle.tp_c.proofs.changes.flat_of.Goals as goal

pub count_inserted-inserted-requires : goal.count_inserted-inserted-requires
count_inserted-inserted-requires c = inserted_most c.args.change.now.records _ _ (ap inserted_in c.records.ensures) c.hash.ensures.limits.operations

pub overflow_sub-result : goal.overflow_sub-result
overflow_sub-result c = inserted_ops c.args.change.now _ _ (c.count_inserted-inserted.ensures ∙ ap inserted_in c.records.ensures) c.op_count.ensures

pub returns : goal.returns
returns c =
    let inserted = c.count_inserted-inserted.ensures ∙ ap inserted_in c.records.ensures in
    let among = inserted_ops c.args.change.now _ _ inserted c.op_count.ensures in
    record {
      hash = ap (λ h. h.0) c.hash.ensures.hash;
      actor = ap (λ a. a.0) c.actor.ensures;
      seq = c.seq.ensures;
      time = c.time.ensures;
      deps = ap length c.deps.ensures;
      inserted = inserted;
      deleted = omega (arith, among, c.op_count.ensures);
    }
