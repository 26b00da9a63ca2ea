use Rattle.tp_ancestry.proofs.Common.{sym}
use Rattle.tp_history.proofs.MarksLaws.{marked_more-nil, marked_more-step}
use Rattle.tp_ancestry.proofs.ancestry.Ancestry.mark.Goals as goal

pub loop-hash-init : goal.loop-hash-init
loop-hash-init c = sym (marked_more-nil c.args.self.now.changes c.args.marks.now c.requires)

pub loop-hash-preserved : goal.loop-hash-preserved
loop-hash-preserved c =
    marked_more-step c.args.hashes.now c.loop-hash.hash-index _ c.args.self.now.changes c.args.marks.now c.loop-hash.marks c.mark_one.new.marks
    c.loop-hash-test.true c.loop-hash.invariant c.mark_one.ensures
