use Rattle.tp_ancestry.proofs.Common.{◌≡◌, ◌∙◌, ap, length, arith, marked_more}
use Rattle.tp_history.proofs.MarksLaws.{walk_starts}
use Rattle.tp_ancestry.proofs.ancestry.Ancestry.walk_back.Goals as goal

pub loop-passed-init : goal.loop-passed-init
loop-passed-init c =
    let made = rw c.len-count.ensures.len at (c.in_ok-marks.ensures.items_if_clones_equal (λ y e. e)) in
    let whole : c.in_ok-marks.marks.len ≡ length c.in_ok-marks.marks.items = omega (arith, c.in_ok-marks.marks.ok.0) in
    walk_starts c.args.self.now.changes c.args.hashes.now c.mark.new.marks c.in_ok-marks.marks.items c.in_ok-marks.marks.len
    whole made (c.mark.ensures ∙ ap (marked_more c.args.hashes.now c.args.self.now.changes) c.deref_mut.ensures.value)
