use Rattle.std.proofs.Common.{◌+◌, ◌-◌, List, drop, subst, take}
use Rattle.std.specs.Str.{chars}
use Rattle.tp_edit.specs.declared.splice.Splice.{Splice}
use Rattle.tp_history.specs.Past.{past}
use Rattle.tp_commands.specs.Since.{MakesEditsAt}
use Rattle.tp_commands.proofs.GrowthLaws.{grows_on}
use Rattle.tp_commands.proofs.SinceLaws.{first_done_at, stops_edits_at}
use Rattle.tp_commands.proofs.Updates.{ahead_is, does_all, does_more, full_ahead, some_ahead, within_ahead}
use Rattle.tp_commands.proofs.since.edit_all_at.Goals as goal

pub edit_on-requires-clause-some : goal.edit_on-requires-clause-some
edit_on-requires-clause-some g c =
    some_ahead c.args.splices.now c.loop-from.from c.group_len.result c.requires.some c.group_len.ensures.some c.loop-from-test.true

pub loop-from-preserved : goal.loop-from-preserved
loop-from-preserved g c =
    let p = c.args.peer.now in
    let H = c.args.on.now.items in
    let by = c.args.by.now in
    let ss = c.args.splices.now in
    let from = c.loop-from.from in
    let len = c.group_len.result in
    let is = ahead_is ss from len in
    let before = subst (λ (rest : List Splice). MakesEditsAt p H by.actor ss rest by.time (chars by.message.now) c.loop-from.on.items c.loop-from.hashes.items c.loop-from.peer) is c.loop-from.invariant.makes in
    record {
      within = within_ahead ss from len c.loop-from.invariant.within c.group_len.ensures.within;
      makes = c.in-Ok.ensures.ok p H ss (drop (from + len) ss) before (full_ahead ss from len c.group_len.ensures.full);
      grows = grows_on p c.loop-from.peer c.edit_on.new.peer c.loop-from.invariant.grows c.in-Ok.ensures.grows;
      does = does_more (past p.applied H) (past c.loop-from.peer.applied c.loop-from.on.items) (past c.edit_on.new.peer.applied c.edit_on.new.on.items) ss from len c.loop-from.invariant.does c.in-Ok.ensures.text;
    }

pub returns-clause-text : goal.returns-clause-text
returns-clause-text g c =
    does_all (past c.args.peer.now.applied c.args.on.now.items) (past c.loop-from.peer.applied c.loop-from.on.items) c.args.splices.now c.loop-from.from c.loop-from-test.false c.loop-from.invariant.does

pub returns-in-Err-clause-err : goal.returns-in-Err-clause-err
returns-in-Err-clause-err g c =
    let ss = c.args.splices.now in
    let from = c.loop-from.from in
    let by = c.args.by.now in
    stops_edits_at c.args.peer.now c.loop-from.peer c.args.on.now.items c.loop-from.on.items by.actor ss (take (from + c.group_len.result - from) (drop from ss)) from by.time (chars by.message.now)
    c.loop-from.hashes.items c.in-Err.error c.stopped_at.result c.loop-from.invariant.makes c.stopped_at.ensures.error c.stopped_at.ensures.place c.in-Err.ensures.err

pub returns-in-Err-clause-left : goal.returns-in-Err-clause-left
returns-in-Err-clause-left g c =
    first_done_at (past c.args.peer.now.applied c.args.on.now.items) c.loop-from.peer c.edit_on.new.peer c.loop-from.on.items c.args.splices.now c.loop-from.from c.group_len.result c.stopped_at.result.place
    c.loop-from-test.true c.stopped_at.ensures.place c.loop-from.invariant.does c.in-Err.ensures.left

pub returns-in-Err-clause-grows : goal.returns-in-Err-clause-grows
returns-in-Err-clause-grows g c = grows_on c.args.peer.now c.loop-from.peer c.edit_on.new.peer c.loop-from.invariant.grows c.edit_on.ensures.grows
