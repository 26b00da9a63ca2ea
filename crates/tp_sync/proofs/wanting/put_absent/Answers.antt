use Rattle.tp_sync.proofs.Common.{◌∙◌, ap, sym, Vec, Global, Hash}
use Rattle.tp_sync.proofs.WantLaws.{HasPut-more, HasPut-less}
use Rattle.tp_sync.proofs.wanting.put_absent.Goals.{then-is_absent+in_ok-put, else-is_absent}
use Rattle.tp_sync.proofs.wanting.put_absent.Goals as goal

pub loop-hash-preserved : goal.loop-hash-preserved
loop-hash-preserved c =
    let C = c.args.graph.now.applied in
    let W = c.args.graph.now.waiting in
    elim c.if-is_absent.branch [
      | then-is_absent+in_ok-put w ↦
          HasPut-more C W c.args.found.now.items c.args.hashes.now c.loop-hash.hash-index _ c.loop-hash.found.items c.if-is_absent.found.items c.loop-hash-test.true c.loop-hash.invariant
          (sym c.is_absent.ensures ∙ w.if-is_absent.true) (ap (λ (v : Vec Hash Global). v.items) w.found-is ∙ w.in_ok-put.ensures)
      | else-is_absent w ↦
          HasPut-less C W c.args.found.now.items c.args.hashes.now c.loop-hash.hash-index _ c.loop-hash.found.items c.if-is_absent.found.items c.loop-hash-test.true c.loop-hash.invariant
          (sym c.is_absent.ensures ∙ w.if-is_absent.false) (ap (λ (v : Vec Hash Global). v.items) w.found-is)
    ]
