use Rattle.std.proofs.Common.{◌≡◌, ◌<◌, ◌≤◌, length, arith, take, drop}
use Rattle.tp_opid.specs.declared.op_id.Place.TheVariants.{Start}
use Rattle.tp_rga.specs.Shown.{visible_of}
use Rattle.tp_edit.specs.Splices.{inserted_chars}
use Rattle.tp_edit.specs.EditRecords.{ids_of, after_last, removals_of}
use Rattle.tp_edit.specs.Landings.{ids_through}
use Rattle.tp_edit.proofs.RecordSteps.{run_put, no_run_put, after_last-at, after_last-start}
use Rattle.tp_edit.proofs.making.append_splice.Goals as goal
use Rattle.tp_edit.proofs.making.append_splice.Goals.{then-at-eq0, else-at-eq0}

pub returns-in_ok-push : goal.returns-in_ok-push
returns-in_ok-push g c =
    let W = ids_through c.args.actor (ids_of (visible_of (g.S.Sequence.removals c.args.sequence.now) (g.S.Sequence.placed c.args.sequence.now))) c.args.landings.now.done.items in
    let s = c.args.splice.now in
    let at = s.at in
    let removed = removals_of (take s.del (drop at W)) in
    let after : c.if-at-eq0.after ≡ after_last Start (take at W) =
    elim c.if-at-eq0.branch [
      | then-at-eq0 w ↦ rw w.after-is (after_last-start W at w.if-at-eq0.true)
      | else-at-eq0 w ↦ rw w.after-is (after_last-at W at w.id_through.result (omega (arith, w.if-at-eq0.false)) w.id_through.ensures)
    ] in
    let text : c.in_ok-text.text ≡ inserted_chars s = c.in_ok-text.ensures.copied in
    let some : 0 < length (inserted_chars s) = omega (arith, c.requires.count, c.if-count-gt0.true) in
    run_put removed (after_last Start (take at W)) (inserted_chars s) c.if-at-eq0.after c.in_ok-text.text c.args.records.now.items _ _ c.in_ok-push.ensures.items c.in_ok-append_removals.ensures after text some

pub returns-else-count-gt0 : goal.returns-else-count-gt0
returns-else-count-gt0 g c =
    let W = ids_through c.args.actor (ids_of (visible_of (g.S.Sequence.removals c.args.sequence.now) (g.S.Sequence.placed c.args.sequence.now))) c.args.landings.now.done.items in
    let s = c.args.splice.now in
    let none : length (inserted_chars s) ≤ 0 = omega (arith, c.requires.count, c.if-count-gt0.false) in
    no_run_put (removals_of (take s.del (drop s.at W))) (after_last Start (take s.at W)) (inserted_chars s) c.args.records.now.items _ c.in_ok-append_removals.ensures none
