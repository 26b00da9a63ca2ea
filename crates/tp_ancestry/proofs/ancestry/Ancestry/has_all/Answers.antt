use Rattle.tp_ancestry.proofs.Common.{◌∙◌, sym, ap, drop_all}
use Rattle.tp_history.specs.Named as named
use Rattle.tp_history.proofs.PlacesLaws.{has_all-stop, has_all-on}
use Rattle.tp_ancestry.proofs.ancestry.Ancestry.has_all.Goals as goal

pub returns-then-not-contains : goal.returns-then-not-contains
returns-then-not-contains c =
    has_all-stop c.args.self.now.changes c.args.hashes.now c.loop-hash.hash-index _ c.loop-hash-test.true c.loop-hash.invariant (sym c.contains.ensures ∙ c.if-not-contains.true)

pub loop-hash-preserved : goal.loop-hash-preserved
loop-hash-preserved c =
    has_all-on c.args.self.now.changes c.args.hashes.now c.loop-hash.hash-index _ c.loop-hash-test.true c.loop-hash.invariant (sym c.contains.ensures ∙ c.if-not-contains.false)

pub returns : goal.returns
returns c = sym (sym c.loop-hash.invariant ∙ ap (named.has_all c.args.self.now.changes) (drop_all c.loop-hash.hash-index c.args.hashes.now c.loop-hash-test.false))
