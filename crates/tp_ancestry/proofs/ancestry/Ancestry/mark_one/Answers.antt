use Rattle.tp_ancestry.proofs.Common.{sym}
use Rattle.tp_history.proofs.PlacesLaws.{has-from_place}
use Rattle.tp_history.proofs.MarksLaws.{set_is_marked_more, marked_more-unknown, hashes_once}
use Rattle.tp_ancestry.proofs.ancestry.Ancestry.mark_one.Goals as goal

pub returns-in-Some : goal.returns-in-Some
returns-in-Some c =
    sym (set_is_marked_more c.args.self.now.changes c.args.marks.now c.args.hash.now c.in-Some.place (hashes_once c.args.self.now.changes c.changes-changes.ensures.sound) c.requires c.in-Some.ensures.place)

pub returns-in_default : goal.returns-in_default
returns-in_default c =
    sym (marked_more-unknown c.args.self.now.changes c.args.marks.now c.args.hash.now c.requires (has-from_place c.args.self.now.changes c.args.hash.now c.in_default.ensures.place))
