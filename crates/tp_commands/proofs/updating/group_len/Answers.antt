use Rattle.std.proofs.Common.{◌≡◌, [], arith, min, take, ◌+◌}
use Rattle.tp_edit.specs.Splices.{total_count}
use Rattle.tp_edit.specs.declared.splice.Splice.{Splice}
use Rattle.tp_edit.proofs.SpliceLists.{total_count-more}
use Rattle.tp_commands.proofs.updating.group_len.Goals as goal

pub loop-at-preserved : goal.loop-at-preserved
loop-at-preserved c =
    let ss = c.args.splices.now in
    let at = c.loop-at.at in
    let d : Splice = record { at = 0; del = 0; text = record { ref_ptr = (0, 0); now = [] } } in
    let more = total_count-more ss at d c.loop-at-test.true in
    let before : c.loop-at.count ≡ min (total_count (take at ss)) 18446744073709551615 = c.loop-at.invariant in
    let after : c.saturating_add-count.result ≡ min (total_count (take (at + 1) ss)) 18446744073709551615 =
    omega (arith, before, more, c.saturating_add.ensures, c.saturating_add-count.ensures, c.inserted_count.ensures.count) in
    after
