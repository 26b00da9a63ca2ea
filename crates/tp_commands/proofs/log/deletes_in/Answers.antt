use Rattle.std.proofs.Common.{◌≤◌, ◌∙◌, ap, sym, subst, arith, List}
use Rattle.std.proofs.lemmas.List.{take_all}
use Rattle.std.proofs.lemmas.Grind.{common_steps}
use Rattle.std.specs.List.{sum_by}
use Rattle.tp_layout.specs.declared.record.Record.{Record}
use Rattle.tp_layout.specs.Counts.{count_of}
use Rattle.tp_layout.proofs.Counts.{count_of_drop}
use Rattle.tp_commands.specs.Log.{delete_count}
use Rattle.tp_commands.proofs.LogLines.{deleted_is}
use Rattle.tp_commands.proofs.log.deletes_in.Goals as goal

pub overflow_add-count : goal.overflow_add-count
overflow_add-count c =
    let split = count_of_drop _ _ _ c.loop-entry-test.true c.entry-item.is in
    let most : count_of c.records-entry-items.result.now ≤ 65536 = subst (λ (l : List Record). count_of l ≤ 65536) (sym c.records-entry-items.ensures) c.hash-hash.ensures.limits.operations in
    omega (arith, split, most, c.loop-entry.invariant.few, c.deletes-count.ensures.most)

pub loop-entry-preserved : goal.loop-entry-preserved
loop-entry-preserved c =
    let split = count_of_drop _ _ _ c.loop-entry-test.true c.entry-item.is in
    record {
      few = omega (arith, split, c.loop-entry.invariant.few, c.deletes-count.ensures.most);
      counted = grind (arith, common_steps);
    }

pub returns : goal.returns
returns c =
    c.loop-entry.invariant.counted
    ∙ ap (sum_by delete_count) (take_all _ _ c.loop-entry-test.false ∙ c.records-entry-items.ensures)
    ∙ sym (deleted_is c.args.change.now)
