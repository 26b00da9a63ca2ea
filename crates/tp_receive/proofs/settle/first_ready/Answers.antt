use Rattle.tp_receive.proofs.Common.{length, ◌<◌, arith, ap, sym, ◌∙◌, get_or_from_slice_get, slice_get-there}
use Rattle.tp_receive.proofs.WaitLaws.{AllWait-more}
use Rattle.tp_receive.proofs.settle.first_ready.Goals as goal

pub loop-i-preserved : goal.loop-i-preserved
loop-i-preserved g c =
    let W = g.R.Replica.waiting c.args.replica.now in
    let i = c.loop-i.i in
    let small : i < length W = omega (arith, ap length c.pending-count.ensures.pending) in
    let there = slice_get-there W i small in
    record {
      all = AllWait-more (g.R.Replica.applied c.args.replica.now) W i there.0 small (sym (get_or_from_slice_get W i there.0 there.0 there.1))
          (sym (c.waits_at.ensures.waits there.0 there.1) ∙ c.if-not-waits_at.false) c.loop-i.invariant.all;
      knows = c.waits_at.ensures.knows;
    }
