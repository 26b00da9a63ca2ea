use Rattle.tp_window.specs.Answers.{IsShownChange}
use Rattle.tp_window.proofs.ZipLaws.{AllZip-more}
use Rattle.tp_window.proofs.writing.shown_changes.Goals as goal

pub loop-change-preserved : goal.loop-change-preserved
loop-change-preserved c =
    AllZip-more IsShownChange c.part_of-part.result.now c.loop-change.change-index c.loop-change.shown.items c.push.new.self.items
    c.change-item.result c.change-item.result _ c.loop-change-test.true c.change-item.is c.loop-change.invariant c.in_ok-shown_change.ensures.ok
    c.in_ok-push.ensures.items
