use Rattle.std.proofs.Common.{◌≤◌, ◌-◌, length, drop, take}
use Rattle.std.specs.Str.{chars}
use Rattle.tp_document.specs.Editing.{DoesSplices}
use Rattle.tp_history.specs.Past.{past}
use Rattle.tp_commands.specs.Since.{GrowsAlone, MakesEditsAt}
use Rattle.tp_commands.proofs.since.edit_all_at.Given as goal

-- the edits so far are those of the splices except the rest
abbrev pub invariant-loop-from : goal.invariant-loop-from
invariant-loop-from g l = record {
  within : l.from ≤ length l.splices;
  makes : MakesEditsAt l.fn.peer l.fn.on.items l.by.actor l.splices (drop l.from l.splices) l.by.time (chars l.by.message.now) l.on.items l.hashes.items l.peer;
  grows : GrowsAlone l.fn.peer l.peer;
  does : DoesSplices (past l.fn.peer.applied l.fn.on.items) (past l.peer.applied l.on.items) (take l.from l.splices);
}

abbrev pub decreases-loop-from : goal.decreases-loop-from
decreases-loop-from g l = length l.splices - l.from
