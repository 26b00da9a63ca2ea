use Rattle.tp_ancestry.proofs.Common.{◌∙◌, ap, slice_get-there, marked_more}
use Rattle.tp_history.proofs.SoundLaws.{deps_first}
use Rattle.tp_history.proofs.MarksLaws.{followed, passed_by}
use Rattle.tp_ancestry.proofs.ancestry.Ancestry.follow.Goals as goal

pub returns-then-marks-place : goal.returns-then-marks-place
returns-then-marks-place c =
    followed c.args.self.now.changes c.args.hashes.now c.args.place c.at.result.now c.args.marks.now c.mark.new.marks
    (deps_first c.args.self.now.changes c.changes-changes.ensures.sound)
    c.at.ensures
    c.requires.walked c.if-marks-place.true
    (c.mark.ensures ∙ ap (λ d. marked_more d c.args.self.now.changes c.args.marks.now) c.deps.ensures)

pub returns-else-marks-place : goal.returns-else-marks-place
returns-else-marks-place c =
    let w = slice_get-there c.args.self.now.changes c.args.place c.requires.place in
    passed_by c.args.self.now.changes c.args.hashes.now c.args.place w.0 c.args.marks.now w.1 c.requires.walked c.if-marks-place.false
