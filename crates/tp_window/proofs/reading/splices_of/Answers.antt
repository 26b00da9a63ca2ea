use Rattle.tp_window.specs.Requests.{IsTypedSplice}
use Rattle.tp_window.proofs.ZipLaws.{AllZip-more}
use Rattle.tp_window.proofs.reading.splices_of.Goals as goal

pub loop-splice-preserved : goal.loop-splice-preserved
loop-splice-preserved c =
    AllZip-more IsTypedSplice c.args.typed.now c.loop-splice.splice-index c.loop-splice.splices.items c.push.new.self.items c.splice-item.result c.splice-item.result c.splice.result
    c.loop-splice-test.true c.splice-item.is c.loop-splice.invariant c.splice.ensures c.in_ok-push.ensures.items
