use Rattle.std.proofs.Common.{sym, ◌∙◌, subst}
use Rattle.std.specs.List.{All}
use Rattle.std.proofs.lemmas.List.{take_all}
use Rattle.std.proofs.lemmas.List.Elements.{All-more}
use Rattle.tp_layout.specs.Limits.{IsHash}
use Rattle.tp_change.proofs.ValidatedSteps.{rises_step}
use Rattle.tp_change.proofs.validating.do_rise.Goals as goal

pub loop-hash-preserved : goal.loop-hash-preserved
loop-hash-preserved c =
    let above = sym c.is_next.ensures ∙ c.if-not-is_next.false in (
      rises_step _ _ _ _ c.loop-hash-test.true above ∙ c.loop-hash.invariant.0,
      All-more IsHash _ _ _ c.loop-hash-test.true c.loop-hash.invariant.1 c.array_len-bytes.ensures.bytes,
    )

pub returns-clause-bytes : goal.returns-clause-bytes
returns-clause-bytes c = λ _. subst (All IsHash) (take_all _ _ c.loop-hash-test.false) c.loop-hash.invariant.1
