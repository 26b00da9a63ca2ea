use Rattle.tp_receive.proofs.Common.{◌∙◌, sym, subst, slice_get-get_or, In, In-slice_get}
use Rattle.tp_receive.proofs.lacking.lack_of.Goals as goal

pub returns-then-not-contains : goal.returns-then-not-contains
returns-then-not-contains g c =
    let deps = c.deps-hash-items.result.now in
    let i = c.loop-hash.hash-index in
    (subst (In _) c.deps-hash-items.ensures (In-slice_get deps i _ (slice_get-get_or deps i _ c.loop-hash-test.true)), sym c.contains.ensures ∙ c.if-not-contains.true)
