use Rattle.tp_peer.proofs.Common.{◌<◌, length, take, add-one}
use Rattle.std.proofs.Math.Seq.{take-suc}
use Rattle.tp_peer.proofs.LinkLaws.{has_last, not_same}
use Rattle.tp_peer.proofs.links.index_of.Goals as goal

pub loop-i-preserved : goal.loop-i-preserved
loop-i-preserved c =
    let L = c.args.links.now in
    let i = c.loop-i.i in
    let h : i < length L = c.loop-i-test.true in
    rw (add-one, take-suc L i c.index-links-i.result)
    (has_last (take i L) _ c.args.number c.loop-i.invariant (not_same _ c.args.number c.if-links-i.false))
