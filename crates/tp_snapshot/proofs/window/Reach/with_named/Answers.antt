use Rattle.tp_snapshot.proofs.Common.{◌≡◌, ◌∙◌, ◌++◌, ◌∷◌, [], sym, ap, append_assoc}
use Rattle.tp_rga.specs.Shown.{index_in}
use Rattle.tp_snapshot.proofs.WindowLaws.{named_more}
use Rattle.tp_snapshot.proofs.window.Reach.with_named.Goals as goal

pub loop-op-preserved : goal.loop-op-preserved
loop-op-preserved g c =
    let L = g.S.Sequence.placed c.args.sequence.now in
    let done = c.loop-op.yielded in
    let op = c.in-Some.op in
    let rest = c.next.new.self in
    let left : c.loop-op.op-iterator ≡ op ∷ rest = c.in-Some.ensures.steps in
    let after = c.with_found-reach.ensures in
    record {
      split = append_assoc done (op ∷ []) rest ∙ ap (λ l. done ++ l) (sym left) ∙ c.loop-op.invariant.split;
      reach = after.reach L c.loop-op.invariant.reach c.index.ensures;
      keeps = λ k i. after.keeps k (c.loop-op.invariant.keeps k i);
      has = named_more c.loop-op.reach c.with_found-reach.result L done op c.loop-op.invariant.has after.keeps (λ k at. after.has k (c.index.ensures ∙ ap (index_in L) c.named_by-id.ensures ∙ at));
    }
