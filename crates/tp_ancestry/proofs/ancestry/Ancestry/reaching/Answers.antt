use Rattle.tp_ancestry.proofs.Common.{◌∙◌, sym, ap, drop_all}
use Rattle.tp_ancestry.specs.VersionVectors as vectors
use Rattle.tp_ancestry.proofs.VectorLaws.{reached-at, reached-stop, reached-on}
use Rattle.tp_ancestry.proofs.ancestry.Ancestry.reaching.Goals as goal

pub returns-then-reaches : goal.returns-then-reaches
returns-then-reaches c =
    reached-at c.args.self.now.changes c.args.latest.now c.args.first c.args.place c.if-first-latest.true (sym c.reaches.ensures ∙ c.if-reaches.true)

pub returns-then-reaches-2 : goal.returns-then-reaches-2
returns-then-reaches-2 c =
    reached-stop c.args.self.now.changes c.args.latest.now c.loop-i.i c.args.place c.loop-i-test.true c.loop-i.invariant (sym c.reaches-in-loop-i.ensures ∙ c.if-reaches-2.true)

pub loop-i-preserved : goal.loop-i-preserved
loop-i-preserved c =
    reached-on c.args.self.now.changes c.args.latest.now c.loop-i.i c.args.place c.loop-i-test.true c.loop-i.invariant (sym c.reaches-in-loop-i.ensures ∙ c.if-reaches-2.false)

pub returns : goal.returns
returns c =
    sym (sym c.loop-i.invariant ∙ ap (λ l. vectors.is_reached c.args.self.now.changes l c.args.place) (drop_all c.loop-i.i c.args.latest.now c.loop-i-test.false))
