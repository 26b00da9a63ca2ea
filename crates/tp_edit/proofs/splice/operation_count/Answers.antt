use Rattle.std.proofs.Common.{◌≡◌, [], arith, ap, ◌∙◌, min, subst, take}
use Rattle.std.proofs.lemmas.List.{take_all}
use Rattle.tp_edit.specs.Splices.{total_count, AllScalars}
use Rattle.tp_edit.specs.declared.splice.Splice.{Splice}
use Rattle.tp_edit.proofs.SpliceLists.{total_count-more, AllScalars-more}
use Rattle.tp_edit.proofs.splice.operation_count.Goals as goal

pub loop-splice-preserved : goal.loop-splice-preserved
loop-splice-preserved c =
    let ss = c.args.splices.now in
    let i = c.loop-splice.splice-index in
    let d : Splice = record { at = 0; del = 0; text = record { ref_ptr = (0, 0); now = [] } } in
    let more = total_count-more ss i d c.loop-splice-test.true in
    let before : c.loop-splice.count ≡ min (total_count (take i ss)) 18446744073709551615 = c.loop-splice.invariant.counted in
    record {
      counted = omega (arith, before, more, c.saturating_add.ensures, c.saturating_add-count.ensures, c.inserted_count.ensures.count);
      scalars = AllScalars-more ss i d c.loop-splice-test.true c.loop-splice.invariant.scalars c.inserted_count.ensures.scalars;
    }

pub returns-clause-count : goal.returns-clause-count
returns-clause-count c =
    c.loop-splice.invariant.counted ∙ ap (λ ss. min (total_count ss) 18446744073709551615) (take_all c.loop-splice.splice-index c.args.splices.now c.loop-splice-test.false)

pub returns-clause-scalars : goal.returns-clause-scalars
returns-clause-scalars c = subst AllScalars (take_all c.loop-splice.splice-index c.args.splices.now c.loop-splice-test.false) c.loop-splice.invariant.scalars
