use Rattle.std.proofs.Common.{◌≡◌, true, refl, sym, ◌∙◌}
use Rattle.std.proofs.lemmas.List.Elements.{AllWithin-more, at_read}
use Rattle.tp_opid.specs.Insert.{Insert}
use Rattle.tp_opid.specs.Tree.{IsReferenceBelow}
use Rattle.tp_rga.specs.Same.{is_only}
use Rattle.tp_rga.proofs.ByChains.{IsTree-from, not_tree-place, not_tree-only, read_as, read_member}
use Rattle.tp_rga.proofs.by_chains.is_tree.Goals as goal

pub returns-then-not-is_reference_below : goal.returns-then-not-is_reference_below
returns-then-not-is_reference_below c =
    let S = c.args.inserts.now in
    let x : Insert = record { id = c.e.inside.id; after = c.e.inside.after; ch = c.e.inside.ch } in
    let at = read_as S c.loop-i.i x c.index-inserts-i.result c.e.view_is c.index-inserts-i.is in
    let i = read_member S S (λ w k. k) c.loop-i.i x c.loop-i-test.true at in
    (λ e. cc, λ tree. absurd (not_tree-place S x i c.is_reference_below.result c.if-not-is_reference_below.true c.is_reference_below.ensures.1 tree))

pub returns-then-not-is_only : goal.returns-then-not-is_only
returns-then-not-is_only c =
    let S = c.args.inserts.now in
    let e = c.index-inserts-i.result in
    let i = read_member S S (λ w k. k) c.loop-i.i e c.loop-i-test.true c.index-inserts-i.is in
    (λ t. cc, λ tree. absurd (not_tree-only S e i (sym c.is_only.ensures ∙ c.if-not-is_only.true) tree))

pub loop-i-preserved : goal.loop-i-preserved
loop-i-preserved c =
    let S = c.args.inserts.now in
    let x : Insert = record { id = c.e.inside.id; after = c.e.inside.after; ch = c.e.inside.ch } in
    let at = read_as S c.loop-i.i x c.index-inserts-i.result c.e.view_is c.index-inserts-i.is in
    let place = c.is_reference_below.ensures.0 c.if-not-is_reference_below.false in
    let only : is_only S x ≡ true = rw c.e.view_is (sym c.is_only.ensures ∙ c.if-not-is_only.false) in
    AllWithin-more (λ (w : Insert). IsReferenceBelow S w.id w.after × (is_only S w ≡ true)) S 0 c.loop-i.i c.loop-i.invariant (at_read S (λ (w : Insert). IsReferenceBelow S w.id w.after × (is_only S w ≡ true)) c.loop-i.i x c.loop-i-test.true at (place, only))

pub returns : goal.returns
returns c = (λ _. IsTree-from c.args.inserts.now c.loop-i.i c.loop-i-test.false c.loop-i.invariant, λ _. refl)
