use Rattle.std.proofs.Common.{sym, ◌∙◌, arith}
use Rattle.tp_rga.proofs.ByChains.{Precedes-step, Precedes-differs, Precedes-all_same}
use Rattle.tp_rga.proofs.by_chains.precedes.Goals as goal

pub returns-then-not-is : goal.returns-then-not-is
returns-then-not-is c =
    let step = Precedes-differs c.args.c.now c.args.d.now c.loop-i.i _ c.loop-i-test.true c.if-i-d.false (sym c.is.ensures ∙ c.if-not-is.true) in
    (λ t. c.loop-i.invariant.back (step.1 (c.is_below.ensures.0 t)), λ p. c.is_below.ensures.1 (step.0 (c.loop-i.invariant.there p)))

pub loop-i-preserved : goal.loop-i-preserved
loop-i-preserved c =
    let step = Precedes-step c.args.c.now c.args.d.now c.loop-i.i _ c.loop-i-test.true c.if-i-d.false (sym c.is.ensures ∙ c.if-not-is.false) in
    record {
      within = omega arith;
      there = λ p. step.0 (c.loop-i.invariant.there p);
      back = λ p. c.loop-i.invariant.back (step.1 p);
    }

pub returns : goal.returns
returns c =
    let end = Precedes-all_same c.args.c.now c.args.d.now c.loop-i.i (omega arith) (omega arith) in
    (λ t. c.loop-i.invariant.back (end.1 t), λ p. end.0 (c.loop-i.invariant.there p))
