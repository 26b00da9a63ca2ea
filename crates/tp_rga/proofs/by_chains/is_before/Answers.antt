use Rattle.tp_rga.proofs.ByChains.{Before-test}
use Rattle.tp_rga.proofs.by_chains.is_before.Goals as goal

pub returns : goal.returns
returns c =
    let test = rw (c.deref.ensures.value, c.deref-2.ensures.value) at c.precedes.ensures in
    Before-test c.args.inserts.now c.requires.tree c.args.x.now c.args.y.now c.in_ok-c.c.items c.in_ok-d.d.items c.precedes.result c.in_ok-c.ensures c.in_ok-d.ensures test
