use Rattle.std.proofs.Common.{◌≤◌, ◌-◌, length, drop, take}
use Rattle.std.specs.Str.{chars}
use Rattle.tp_document.specs.Editing.{DoesSplices}
use Rattle.tp_commands.specs.Updating.{MakesEdits}
use Rattle.tp_commands.proofs.updating.edit_all.Given as goal

-- the edits so far are those of the splices except the rest
abbrev pub invariant-loop-from : goal.invariant-loop-from
invariant-loop-from g l = record {
  within : l.from ≤ length l.splices;
  makes : MakesEdits l.fn.peer l.splices (drop l.from l.splices) l.time (chars l.message) l.hashes.items l.peer;
  does : DoesSplices l.fn.peer.applied l.peer.applied (take l.from l.splices);
}

abbrev pub decreases-loop-from : goal.decreases-loop-from
decreases-loop-from g l = length l.splices - l.from
