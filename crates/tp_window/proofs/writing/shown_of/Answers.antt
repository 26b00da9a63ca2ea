use Rattle.tp_window.specs.Answers.{IsShownDifference}
use Rattle.tp_window.proofs.ZipLaws.{AllZip-more}
use Rattle.tp_window.proofs.writing.shown_of.Goals as goal

pub loop-difference-preserved : goal.loop-difference-preserved
loop-difference-preserved c =
    AllZip-more IsShownDifference c.args.differences.now c.loop-difference.difference-index c.loop-difference.shown.items c.push.new.self.items
    c.difference-item.result c.difference-item.result c.of.result c.loop-difference-test.true c.difference-item.is c.loop-difference.invariant c.of.ensures
    c.in_ok-push.ensures.items
