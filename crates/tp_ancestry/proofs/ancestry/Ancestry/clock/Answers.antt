use Rattle.tp_ancestry.proofs.Common.{sym, subst, HasEnds, IsClockOf, past_changes, Sound}
use Rattle.tp_ancestry.proofs.ClockLaws.{clocks_all}
use Rattle.tp_ancestry.proofs.VectorLaws.{past_changes-past}
use Rattle.tp_ancestry.proofs.PastSetLaws.{past_changes-In}
use Rattle.tp_history.proofs.SoundLaws.{sound_pasts}
use Rattle.tp_ancestry.proofs.ancestry.Ancestry.clock.Goals as goal

pub ends-requires-clause-past : goal.ends-requires-clause-past
ends-requires-clause-past c =
    let C = c.args.self.now.changes in
    subst Sound (sym (past_changes-past c.in_ok-past_set.past_set C c.args.hashes.now c.in_ok-past_set.ensures.bits)) (sound_pasts C c.changes-changes.ensures.sound c.args.hashes.now)

pub returns : goal.returns
returns c =
    let C = c.args.self.now.changes in
    let past_set = c.in_ok-past_set.past_set in
    let has : HasEnds (past_changes past_set C) c.in_ok-ends.field-0 c.in_ok-actors.actors.items = subst (HasEnds (past_changes past_set C) c.in_ok-ends.field-0) c.as_slice.ensures.value c.in_ok-ends.ensures in
    subst (IsClockOf c.in_ok-ends.field-0) (past_changes-past past_set C c.args.hashes.now c.in_ok-past_set.ensures.bits) (clocks_all (past_changes past_set C) C c.in_ok-ends.field-0 c.in_ok-actors.actors.items (past_changes-In past_set C) c.in_ok-actors.ensures has)
