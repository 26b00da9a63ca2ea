use Rattle.std.proofs.Common.{◌+◌, ◌-◌, List, drop, subst, take}
use Rattle.std.specs.Str.{chars}
use Rattle.tp_edit.specs.declared.splice.Splice.{Splice}
use Rattle.tp_commands.specs.Updating.{MakesEdits}
use Rattle.tp_commands.proofs.Updates.{ahead_is, does_all, does_more, first_done, full_ahead, some_ahead, stops_edits, within_ahead}
use Rattle.tp_commands.proofs.updating.edit_all.Goals as goal

pub edit_once-requires-clause-some : goal.edit_once-requires-clause-some
edit_once-requires-clause-some g c =
    some_ahead c.args.splices.now c.loop-from.from c.group_len.result c.requires.some c.group_len.ensures.some c.loop-from-test.true

pub loop-from-preserved : goal.loop-from-preserved
loop-from-preserved g c =
    let p = c.args.peer.now in
    let ss = c.args.splices.now in
    let from = c.loop-from.from in
    let len = c.group_len.result in
    let is = ahead_is ss from len in
    let before = subst (λ (rest : List Splice). MakesEdits p ss rest c.args.time (chars c.args.message.now) c.loop-from.hashes.items c.loop-from.peer) is c.loop-from.invariant.makes in
    record {
      within = within_ahead ss from len c.loop-from.invariant.within c.group_len.ensures.within;
      makes = c.in-Ok.ensures.ok p ss (drop (from + len) ss) before (full_ahead ss from len c.group_len.ensures.full);
      does = does_more p.applied c.loop-from.peer.applied c.edit_once.new.peer.applied ss from len c.loop-from.invariant.does c.in-Ok.ensures.text;
    }

pub returns-clause-text : goal.returns-clause-text
returns-clause-text g c = does_all c.args.peer.now.applied c.loop-from.peer.applied c.args.splices.now c.loop-from.from c.loop-from-test.false c.loop-from.invariant.does

pub returns-in-Err-clause-err : goal.returns-in-Err-clause-err
returns-in-Err-clause-err g c =
    stops_edits c.args.peer.now c.loop-from.peer c.args.splices.now (take (c.loop-from.from + c.group_len.result - c.loop-from.from) (drop c.loop-from.from c.args.splices.now)) c.loop-from.from
    c.args.time (chars c.args.message.now) c.loop-from.hashes.items c.in-Err.error c.stopped_at.result c.loop-from.invariant.makes c.stopped_at.ensures.error c.stopped_at.ensures.place c.in-Err.ensures.err

pub returns-in-Err-clause-left : goal.returns-in-Err-clause-left
returns-in-Err-clause-left g c =
    first_done c.args.peer.now.applied c.loop-from.peer.applied c.edit_once.new.peer.applied c.args.splices.now c.loop-from.from c.group_len.result c.stopped_at.result.place c.loop-from-test.true
    c.stopped_at.ensures.place c.loop-from.invariant.does c.in-Err.ensures.left
